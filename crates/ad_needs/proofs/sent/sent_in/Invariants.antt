use Rattle.std.proofs.Common.{◌≡◌, drop}
use Rattle.std.specs.Prelude.{find, option_map}
use Rattle.ad_needs_rules.specs.Adding.{is_of}
use Rattle.ad_needs.proofs.sent.sent_in.Given as goal

-- none so far has the name
abbrev pub invariant-loop-attr : goal.invariant-loop-attr
invariant-loop-attr l = option_map (λ attr. attr.1) (find (is_of l.name) (drop l.attr-index l.attrs))
    ≡ option_map (λ attr. attr.1) (find (is_of l.name) l.attrs)
