use Rattle.std.proofs.Common.{◌≡◌, map, length}
use Rattle.std.specs.Vec.Iter.{into_iter_items, into_iter_len}
use Rattle.ad_load_records.specs.Seen.{held_field}
use Rattle.ad_load_objects.specs.Through.{through}
use Rattle.ad_load_objects.specs.Index.{drafts_seen}
use Rattle.ad_load_objects.specs.Objects.{nothing_kept, with_line}
use Rattle.ad_load_objects.specs.Found.{AreFound}
use Rattle.ad_load_objects.specs.KeptSeen.{kept_seen}
use Rattle.ad_load_objects.proofs.values.take_lines.Given as goal

-- what is kept so far, and the lines to come
abbrev pub invariant-loop-field : goal.invariant-loop-field
invariant-loop-field l = record {
  made : through (with_line l.schema (drafts_seen l.drafts) l.class.0) (kept_seen l.kept)
      (map held_field (into_iter_items l.field-iterator))
      ≡ through (with_line l.schema (drafts_seen l.drafts) l.class.0) nothing_kept
      (map held_field (into_iter_items l.initial.field-iterator));
  found : AreFound l.schema l.found.items;
  len : into_iter_len l.field-iterator ≡ length (into_iter_items l.field-iterator);
}
