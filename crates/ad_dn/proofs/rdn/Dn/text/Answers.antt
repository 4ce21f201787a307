use Rattle.std.proofs.Common.{◌++◌, List, ℕ, sym, ap, subst, ◌∙◌}
use Rattle.std.specs.Str.{IsUtf8}
use Rattle.ad_dn.specs.Grammar.{SpellsDn}
use Rattle.ad_dn.specs.Text.{rdns_text}
use Rattle.ad_dn.proofs.Spelled.{rdns_spelled}
use Rattle.ad_dn.proofs.TextUtf8.{rdns_utf8}
use Rattle.ad_dn.proofs.rdn.Dn.text.Goals as goal

pub returns-clause-spelled : goal.returns-clause-spelled
returns-clause-spelled c =
    subst (SpellsDn c.args.self.now)
    (ap rdns_text (sym c.as_slice.ensures.same) ∙ ap (λ (t : List ℕ). t ++ rdns_text c.as_slice.result.now)
    (sym c.new-text.ensures.items) ∙ sym c.in_ok-push_rdns.ensures)
    (rdns_spelled c.args.self.now.rdns c.as_slice.ensures.rdns)

pub returns-clause-utf8 : goal.returns-clause-utf8
returns-clause-utf8 c =
    subst IsUtf8
    (ap rdns_text (sym c.as_slice.ensures.same) ∙ ap (λ (t : List ℕ). t ++ rdns_text c.as_slice.result.now)
    (sym c.new-text.ensures.items) ∙ sym c.in_ok-push_rdns.ensures)
    (rdns_utf8 c.args.self.now.rdns c.as_slice.ensures.rdns)
