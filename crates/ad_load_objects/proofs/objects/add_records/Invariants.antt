use Rattle.std.proofs.Common.{◌≡◌, ◌≤◌, ◌+◌, [], map, length}
use Rattle.std.specs.Vec.Iter.{into_iter_items, into_iter_len}
use Rattle.ad_load_objects.specs.Through.{through}
use Rattle.ad_load_objects.specs.Objects.{with_record}
use Rattle.ad_load_objects.specs.Index.{drafts_seen, IsIndexed, HasSids}
use Rattle.ad_load_objects.specs.Found.{AreFound}
use Rattle.ad_load_records.specs.Seen.{seen}
use Rattle.ad_load_objects.proofs.objects.add_records.Given as goal

-- the drafts so far, and the records to come
abbrev pub invariant-loop-one : goal.invariant-loop-one
invariant-loop-one l = record {
  made : through (with_record l.schema) (drafts_seen l.drafts) (map seen (into_iter_items l.one-iterator))
      ≡ through (with_record l.schema) [] (map seen (into_iter_items l.initial.one-iterator));
  len : into_iter_len l.one-iterator ≡ length (into_iter_items l.one-iterator);
  indexed : IsIndexed l.drafts;
  sids : HasSids l.schema l.drafts;
  found : AreFound l.schema l.found.items;
  few : length l.drafts.items.items + length (into_iter_items l.one-iterator) ≤ 67108864;
}
