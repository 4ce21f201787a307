use Rattle.std.proofs.Common.{◌≡◌, ◌++◌, map, drop}
use Rattle.ad_needs_rules.specs.Modifying.{items_of}
use Rattle.ad_needs.proofs.items.items_of.Given as goal

-- those so far and those that are left are all
abbrev pub invariant-each : goal.invariant-each
invariant-each l = map (λ item. item.now) l.all.items ++ items_of (drop l.item-index l.items) l.name
    ≡ items_of l.items l.name
