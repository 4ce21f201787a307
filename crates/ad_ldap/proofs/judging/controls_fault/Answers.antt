use Rattle.std.proofs.Common.{◌∙◌, [], ap, sym, subst}
use Rattle.ad_ldap.specs.MessageValue.{op_seen}
use Rattle.ad_ldap.specs.Settings.{first_fault}
use Rattle.ad_ldap.specs.OwnFaults.{first_own}
use Rattle.ad_ldap.specs.Again.{IsAgainAt}
use Rattle.ad_ldap.proofs.StandsAgain.{own_alone}
use Rattle.ad_ldap.proofs.judging.controls_fault.Goals as goal

pub returns-in-None : goal.returns-in-None
returns-in-None c =
    c.first_own_fault.ensures ∙ ap (first_own (op_seen c.args.op.now)) c.as_slice-items.ensures
    ∙ own_alone (op_seen c.args.op.now) [] c.args.controls.now c.in-None.ensures

pub fault_up_to-requires : goal.fault_up_to-requires
fault_up_to-requires c = subst (IsAgainAt c.in-Some.place) (sym c.as_slice-items.ensures) c.in-Some.ensures

pub returns-in-Some : goal.returns-in-Some
returns-in-Some c = c.fault_up_to.ensures ∙ ap (first_fault (op_seen c.args.op.now) []) c.as_slice-items.ensures
