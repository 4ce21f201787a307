use Rattle.std.proofs.Common.{◌∙◌}
use Rattle.ad_dir.proofs.NameLaws.{if_ok}
use Rattle.ad_needs.proofs.ModifyLaws.{by_name, by_no_name}
use Rattle.ad_needs.proofs.modifying.modify_verdict.Goals as goal

pub returns-in-Some : goal.returns-in-Some
returns-in-Some c =
    if_ok c.verdict_named.result
    (λ verdict is. is ∙ by_name c.args.dir.now c.args.token.now c.args.modify.now c.args.settings.now c.in-Some.dn
    (rw (c.in-Some.is, c.as_slice.ensures) at c.in_ok-dn.ensures))
    (rw c.as_slice-items.ensures at c.verdict_named.ensures)

pub returns-in-None : goal.returns-in-None
returns-in-None c = by_no_name c.args.dir.now c.args.token.now c.args.modify.now c.args.settings.now
    (rw (c.in-None.is, c.as_slice.ensures) at c.in_ok-dn.ensures)
