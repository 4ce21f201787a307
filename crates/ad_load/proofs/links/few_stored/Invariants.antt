use Rattle.std.proofs.Common.{◌≡◌, [], map, length}
use Rattle.std.specs.Vec.Iter.{into_iter_items, into_iter_len}
use Rattle.ad_dir_objects.specs.Seen.{held_seen}
use Rattle.ad_load_objects.specs.Through.{through}
use Rattle.ad_load.specs.Links.{with_given}
use Rattle.ad_load_objects.specs.Seen.{given_seen}
use Rattle.ad_load.proofs.links.few_stored.Given as goal

-- the values so far, and those to come
abbrev pub invariant-loop-one : goal.invariant-loop-one
invariant-loop-one g l = record {
  made : through (with_given l.schema g.all) (map held_seen l.values.items)
      (map given_seen (into_iter_items l.one-iterator))
      ≡ through (with_given l.schema g.all) [] (map given_seen (into_iter_items l.initial.one-iterator));
  len : into_iter_len l.one-iterator ≡ length (into_iter_items l.one-iterator);
}

abbrev pub ghost-add_given : goal.ghost-add_given
ghost-add_given g a = g.all
