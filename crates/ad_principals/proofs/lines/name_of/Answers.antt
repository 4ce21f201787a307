use Rattle.std.proofs.Common.{◌∙◌}
use Rattle.ad_dir.proofs.NameLaws.{if_ok, name_is}
use Rattle.ad_principals.proofs.lines.name_of.Goals as goal

pub returns : goal.returns
returns c = if_ok c.text.result (λ text is. is ∙ name_is c.args.dir.now c.args.number c.in_ok-dn.dn.rdns
    c.in_ok-dn.ensures) c.text.ensures.written
