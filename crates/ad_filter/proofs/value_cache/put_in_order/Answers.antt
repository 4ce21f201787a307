use Rattle.std.proofs.Common.{◌≡◌, rules, ap}
use Rattle.std.specs.Ordering.{is_lt}
use Rattle.std.proofs.lemmas.List.Sorted.{ranks_by, answers_always}
use Rattle.ad_value.specs.Value.{Value, key_order}
use Rattle.ad_filter.proofs.value_cache.put_in_order.Goals as goal

pub returns-clause-order : goal.returns-clause-order
returns-clause-order c = λ ordered.
    c.sort_unstable_by.ensures.sorted (λ (a b : Value). is_lt (key_order a.key b.key))
    (ranks_by c.keys_are_ordered.ensures.total (λ (v : Value). v.key))
    (answers_always _ _ _ (λ f a r q k. let is : r ≡ key_order a.0.now.key a.1.0.now.key = search rules in ap is_lt is))
