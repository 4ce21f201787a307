use Rattle.std.proofs.Common.{◌≡◌, Option, IfOk, subst}
use Rattle.ad_who.specs.declared.reason.Reason.{Reason}
use Rattle.ad_control_lines.proofs.Whys.{last_some, last_none}
use Rattle.ad_control_lines.proofs.deciding.last_reason.Goals as goal

pub returns-in-Some : goal.returns-in-Some
returns-in-Some c =
    subst (λ (why : Option Reason). IfOk c.reason_for.result (λ (reason : Option Reason). reason ≡ why))
    (last_some c.args.dir.now c.args.token.now c.args.number c.args.texts.now c.in-Some.text.now c.in-Some.ensures.value)
    c.reason_for.ensures

pub returns-in-None : goal.returns-in-None
returns-in-None c =
    last_none c.args.dir.now c.args.token.now c.args.number c.args.texts.now c.in-None.ensures.value
