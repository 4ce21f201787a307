use Rattle.std.proofs.Common.{◌≡◌, ◌∙◌, ℕ, List, IfOk, ap, subst}
use Rattle.ad_dn.specs.Text.{dn_text}
use Rattle.ad_search.proofs.finding.matched.Goals as goal

pub returns : goal.returns
returns c =
    subst (λ (x : List ℕ). IfOk c.text.result (λ text. text.items ≡ x))
    (ap dn_text c.in_ok-above.ensures ∙ c.in_ok-levels.ensures.nearest) c.text.ensures.written
