use Rattle.std.proofs.Common.{◌∙◌, sym, ap}
use Rattle.std.specs.Prelude.{nat_eq}
use Rattle.std.specs.Map.{lookup}
use Rattle.std.proofs.lemmas.Option.{none-some}
use Rattle.ad_control_linked.proofs.links.Links.new.Goals as goal

pub returns : goal.returns
returns c = λ dir nodes graph parent set number at below up.
    absurd (none-some set (sym (ap (lookup (nat_eq parent)) c.new.ensures.empty) ∙ at))
