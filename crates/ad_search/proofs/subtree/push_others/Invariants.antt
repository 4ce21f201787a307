use Rattle.std.proofs.Common.{◌≡◌, ◌++◌, drop}
use Rattle.std.specs.Prelude.{filter}
use Rattle.ad_search.specs.Subtree.{is_other}
use Rattle.ad_search.proofs.subtree.push_others.Given as goal

-- those so far and those that are left
abbrev pub invariant-each : goal.invariant-each
invariant-each l = l.below.items ++ filter is_other (drop l.number-index l.numbers) ≡ l.initial.below.items
    ++ filter is_other l.numbers
