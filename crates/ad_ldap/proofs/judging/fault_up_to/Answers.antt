use Rattle.std.proofs.Common.{◌∙◌, Some, ap, Option, ℕ}
use Rattle.ad_ldap.specs.MessageValue.{op_seen}
use Rattle.ad_ldap.specs.Settings.{first_of}
use Rattle.ad_ldap.proofs.StandsAgain.{own_up_to}
use Rattle.ad_ldap.proofs.judging.fault_up_to.Goals as goal

pub returns-in-Some : goal.returns-in-Some
returns-in-Some c = ap (λ (o : Option ℕ). first_of o (Some 2)) c.in-Some.ensures ∙ own_up_to (op_seen c.args.op.now)
    c.args.controls.now c.args.place c.requires

pub returns-in-None : goal.returns-in-None
returns-in-None c = ap (λ (o : Option ℕ). first_of o (Some 2)) c.in-None.ensures ∙ own_up_to (op_seen c.args.op.now)
    c.args.controls.now c.args.place c.requires
