use Rattle.std.proofs.Common.{◌∙◌, List, ap}
use Rattle.ad_dir.proofs.NameLaws.{if_ok}
use Rattle.ad_dn.specs.declared.rdn.Rdn.{Rdn}
use Rattle.ad_dir_model.specs.Names.{found}
use Rattle.ad_both.specs.Both.{counterpart}
use Rattle.ad_both.proofs.both.counterpart.Goals as goal

pub returns-clause-counterpart : goal.returns-clause-counterpart
unfolding counterpart
returns-clause-counterpart c = if_ok c.find.result
    (λ other is. is ∙ ap (λ (rdns : List Rdn). found c.args.other.now rdns) c.in_ok-dn.ensures)
    c.find.ensures.found

pub returns-clause-live : goal.returns-clause-live
returns-clause-live c = c.find.ensures.live
