use Rattle.std.proofs.Common.{◌≡◌, ◌≤◌, ◌+◌, [], map, length}
use Rattle.std.specs.Option.{option_copied}
use Rattle.std.specs.Vec.Iter.{into_iter_items, into_iter_len}
use Rattle.ad_load_objects.specs.Through.{through}
use Rattle.ad_load.specs.Links.{with_object}
use Rattle.ad_load_objects.specs.Seen.{draft_seen}
use Rattle.ad_load.specs.Seen.{entry_seen}
use Rattle.ad_load.proofs.links.objects_of.Given as goal

-- the objects so far, and the drafts to come
abbrev pub invariant-loop-draft : goal.invariant-loop-draft
invariant-loop-draft g l = record {
  made : through (with_object l.schema g.all (option_copied l.domain)) (map entry_seen l.objects.items)
      (map draft_seen (into_iter_items l.draft-iterator))
      ≡ through (with_object l.schema g.all (option_copied l.domain)) []
      (map draft_seen (into_iter_items l.initial.draft-iterator));
  len : into_iter_len l.draft-iterator ≡ length (into_iter_items l.draft-iterator);
  few : length l.objects.items + length (into_iter_items l.draft-iterator) ≤ 67108864;
}

abbrev pub ghost-add_object : goal.ghost-add_object
ghost-add_object g a = g.all
