use Rattle.ad_dir.proofs.NameLaws.{if_ok}
use Rattle.ad_needs.proofs.ModifyLaws.{owner_stops, list_stops, list_goes_on}
use Rattle.std.proofs.Common.{Bool, ◌++◌, Some, None, ap}
use Rattle.std.specs.Prelude.{is_some}
use Rattle.ad_acl.specs.Mask.{write_owner, write_dac, access_system_security}
use Rattle.ad_needs_rules.specs.Descriptors.{has_owner_or_group}
use Rattle.ad_needs_rules.specs.Modifying.{need_if}
use Rattle.ad_needs.proofs.StepLaws.{same_steps, stops, follows}
use Rattle.ad_needs.proofs.modify_needs.parts_refusal.Goals as goal

pub returns-in-Some-clause-refusal : goal.returns-in-Some-clause-refusal
returns-in-Some-clause-refusal c =
    owner_stops c.args.dir.now c.args.token.now c.args.number c.args.parts.now c.has_owner_or_group-is_owned.result
    c.in-Some.owner c.has_owner_or_group-is_owned.ensures
    (rw c.in-Some.is at c.in_ok-owner.ensures.refusal)

pub returns-in-Some-2-clause-refusal : goal.returns-in-Some-2-clause-refusal
returns-in-Some-2-clause-refusal c =
    list_stops c.args.dir.now c.args.token.now c.args.number c.args.parts.now c.has_owner_or_group-is_owned.result
    c.is_some-has_list.result c.in-Some-2.list c.has_owner_or_group-is_owned.ensures
    (rw c.in_default.is at c.in_ok-owner.ensures.refusal) c.is_some-has_list.ensures
    (rw c.in-Some-2.is at c.in_ok-list.ensures.refusal)

pub returns-clause-refusal : goal.returns-clause-refusal
returns-clause-refusal c =
    if_ok c.require_if_written-3.result
    (λ refusal is.
    list_goes_on c.args.dir.now c.args.token.now c.args.number c.args.parts.now c.has_owner_or_group-is_owned.result
    c.is_some-has_list.result c.is_some-is_audited.result refusal c.has_owner_or_group-is_owned.ensures
    (rw c.in_default.is at c.in_ok-owner.ensures.refusal) c.is_some-has_list.ensures
    (rw c.in_default-2.is at c.in_ok-list.ensures.refusal) c.is_some-is_audited.ensures is)
    c.require_if_written-3.ensures.refusal

pub returns-in-Some-clause-steps : goal.returns-in-Some-clause-steps
returns-in-Some-clause-steps c =
    let dir = c.args.dir.now in
    let token = c.args.token.now in
    let number = c.args.number in
    let parts = c.args.parts.now in
    stops dir token c.args.trace.now c.require_if_written.new.trace
    (need_if (has_owner_or_group parts) number write_owner)
    (need_if (is_some parts.dacl) number write_dac ++ need_if (is_some parts.sacl) number access_system_security)
    c.in-Some.owner
    (same_steps dir token c.args.trace.now c.require_if_written.new.trace _ _ (Some c.in-Some.owner)
    (ap (λ (b : Bool). need_if b number write_owner) c.has_owner_or_group-is_owned.ensures)
    (rw c.in-Some.is at c.in_ok-owner.ensures.steps))

pub returns-in-Some-2-clause-steps : goal.returns-in-Some-2-clause-steps
returns-in-Some-2-clause-steps c =
    let dir = c.args.dir.now in
    let token = c.args.token.now in
    let number = c.args.number in
    let parts = c.args.parts.now in
    follows dir token c.args.trace.now c.require_if_written.new.trace c.require_if_written-2.new.trace
    (need_if (has_owner_or_group parts) number write_owner)
    (need_if (is_some parts.dacl) number write_dac ++ need_if (is_some parts.sacl) number access_system_security)
    (Some c.in-Some-2.list)
    (same_steps dir token c.args.trace.now c.require_if_written.new.trace _ _ None
    (ap (λ (b : Bool). need_if b number write_owner) c.has_owner_or_group-is_owned.ensures)
    (rw c.in_default.is at c.in_ok-owner.ensures.steps))
    (stops dir token c.require_if_written.new.trace c.require_if_written-2.new.trace
    (need_if (is_some parts.dacl) number write_dac) (need_if (is_some parts.sacl) number access_system_security)
    c.in-Some-2.list
    (same_steps dir token c.require_if_written.new.trace c.require_if_written-2.new.trace _ _ (Some c.in-Some-2.list)
    (ap (λ (b : Bool). need_if b number write_dac) c.is_some-has_list.ensures)
    (rw c.in-Some-2.is at c.in_ok-list.ensures.steps)))

pub returns-clause-steps : goal.returns-clause-steps
returns-clause-steps c =
    let dir = c.args.dir.now in
    let token = c.args.token.now in
    let number = c.args.number in
    let parts = c.args.parts.now in
    if_ok c.require_if_written-3.result
    (λ found next. follows dir token c.args.trace.now c.require_if_written.new.trace c.require_if_written-3.new.trace
    (need_if (has_owner_or_group parts) number write_owner)
    (need_if (is_some parts.dacl) number write_dac ++ need_if (is_some parts.sacl) number access_system_security)
    found
    (same_steps dir token c.args.trace.now c.require_if_written.new.trace _ _ None
    (ap (λ (b : Bool). need_if b number write_owner) c.has_owner_or_group-is_owned.ensures)
    (rw c.in_default.is at c.in_ok-owner.ensures.steps))
    (follows dir token c.require_if_written.new.trace c.require_if_written-2.new.trace
    c.require_if_written-3.new.trace
    (need_if (is_some parts.dacl) number write_dac) (need_if (is_some parts.sacl) number access_system_security)
    found
    (same_steps dir token c.require_if_written.new.trace c.require_if_written-2.new.trace _ _ None
    (ap (λ (b : Bool). need_if b number write_dac) c.is_some-has_list.ensures)
    (rw c.in_default-2.is at c.in_ok-list.ensures.steps))
    (same_steps dir token c.require_if_written-2.new.trace c.require_if_written-3.new.trace _ _ found
    (ap (λ (b : Bool). need_if b number access_system_security) c.is_some-is_audited.ensures) next)))
    c.require_if_written-3.ensures.steps
