use Rattle.std.proofs.Common.{◌≡◌, ℕ, not, drop}
use Rattle.std.specs.List.{list_all}
use Rattle.ad_change_values.specs.Values.{all_attrs, is_lacking}
use Rattle.std.specs.BTreeSet.{contains}
use Rattle.std.specs.Ordering.{nat_cmp}
use Rattle.ad_change.proofs.adding.lacks_none.Given as goal

-- none is missing where none of those that are left is
abbrev pub invariant-each : goal.invariant-each
invariant-each l =
    list_all (λ (attr : ℕ). not (is_lacking l.schema l.class.0 attr (contains nat_cmp l.given attr)))
    (drop l.attr (all_attrs l.schema))
    ≡ list_all (λ (attr : ℕ). not (is_lacking l.schema l.class.0 attr (contains nat_cmp l.given attr)))
    (all_attrs l.schema)
