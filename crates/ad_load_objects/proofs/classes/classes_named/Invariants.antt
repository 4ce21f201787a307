use Rattle.std.proofs.Common.{◌≡◌, [], map, drop}
use Rattle.ad_load_records.specs.Seen.{held_field}
use Rattle.ad_load_objects.specs.Through.{through}
use Rattle.ad_load_objects.specs.Objects.{with_class}
use Rattle.ad_load_objects.specs.Found.{AreFound}
use Rattle.ad_load_objects.proofs.classes.classes_named.Given as goal

-- the classes so far, and those of the lines to come
abbrev pub invariant-loop-field : goal.invariant-loop-field
invariant-loop-field l = record {
  made : through (with_class l.schema l.line) l.classes.items
      (map held_field (drop l.field-index l.fields)) ≡ through (with_class l.schema l.line) []
      (map held_field l.fields);
  found : AreFound l.schema l.found.items;
}
