use Rattle.std.proofs.Common.{length, rules}
use Rattle.std.proofs.lemmas.List.Sorted.{IsNonDecreasingBy-from_sort_by_key, answers_always}
use Rattle.ad_load_records.specs.declared.records.Record.{Record as Held}
use Rattle.ad_load_records.specs.Seen.{seen}
use Rattle.ad_load_objects.proofs.Sorting.{is_sorted}
use Rattle.ad_load_objects.proofs.order.sort_by_parts.Goals as goal

pub returns-clause-sorted : goal.returns-clause-sorted
returns-clause-sorted c =
    is_sorted seen c.args.records.now.items c.sort_by_key.new.self.items
    (c.in_ok-sort_by_key.ensures.stable (λ (r : Held). length (seen r).rdns)
    (answers_always _ _ _ (λ f a r q k. search rules)))
    (IsNonDecreasingBy-from_sort_by_key (λ (r : Held). length
    (seen r).rdns) c.sort_by_key.new.self.items c.in_ok-sort_by_key.ensures.sorted (λ a r q k. search rules))
