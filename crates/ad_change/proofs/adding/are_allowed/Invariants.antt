use Rattle.std.proofs.Common.{◌≡◌, List, ℕ, drop}
use Rattle.std.specs.List.{list_all}
use Rattle.ad_schema.specs.declared.info.AttrId.{AttrId}
use Rattle.ad_schema.specs.Classes.{is_allowed}
use Rattle.ad_change.proofs.adding.are_allowed.Given as goal

-- all are allowed where those that are left are
abbrev pub invariant-each : goal.invariant-each
invariant-each l =
    list_all (λ (attr : AttrId × List (List ℕ)). is_allowed l.schema l.class.0 attr.0.0) (drop l.attr-index l.values)
    ≡ list_all (λ (attr : AttrId × List (List ℕ)). is_allowed l.schema l.class.0 attr.0.0) l.values
