use Rattle.std.proofs.Common.{drop}
use Rattle.std.specs.List.{AllByRecursion}
use Rattle.ad_bytes.specs.Reading.{IsBytes}
use Rattle.ad_ldap.specs.declared.items.Item.{Item}
use Rattle.ad_engine_answer.proofs.ranges.items_are_bytes.Given as goal

-- if the others are, all are
abbrev pub invariant-loop-item : goal.invariant-loop-item
invariant-loop-item l =
    AllByRecursion (λ (item : Item). AllByRecursion IsBytes item.values) (drop l.item-index l.items)
    → AllByRecursion (λ (item : Item). AllByRecursion IsBytes item.values) l.items
