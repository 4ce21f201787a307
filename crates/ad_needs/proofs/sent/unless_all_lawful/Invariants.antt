use Rattle.std.proofs.Common.{◌≡◌, drop}
use Rattle.std.specs.Prelude.{filter_map}
use Rattle.std.specs.List.{flat_map}
use Rattle.ad_needs_rules.specs.Adding.{ordinary, own_checks}
use Rattle.ad_needs_rules.specs.Judged.{refusal_of}
use Rattle.ad_needs.proofs.sent.unless_all_lawful.Given as goal

-- none so far is refused
abbrev pub invariant-loop-attr : goal.invariant-loop-attr
invariant-loop-attr l =
    refusal_of (flat_map (own_checks l.schema l.class.0 l.value)
    (filter_map (ordinary l.schema) (drop l.attr-index l.attrs)))
    ≡ refusal_of (flat_map (own_checks l.schema l.class.0 l.value) (filter_map (ordinary l.schema) l.attrs))
