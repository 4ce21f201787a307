use Rattle.std.proofs.Common.{◌≡◌, ℕ, drop}
use Rattle.std.specs.Prelude.{◌||◌}
use Rattle.std.specs.BTreeSet.{contains}
use Rattle.std.specs.Ordering.{nat_cmp}
use Rattle.ad_change.specs.Adding.{is_given}
use Rattle.ad_change.proofs.by_attr.given_of.Given as goal

-- those so far, and those to come
abbrev pub invariant-each : goal.invariant-each
invariant-each l = (attr : ℕ) → (contains nat_cmp l.given attr || is_given (drop l.one-index l.values) attr)
    ≡ is_given l.values attr
