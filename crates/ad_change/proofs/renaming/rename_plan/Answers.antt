use Rattle.std.proofs.Common.{◌≡◌, ℕ, List, true, sym, subst, ap}
use Rattle.ad_dir_model.specs.Object.{Object}
use Rattle.ad_dir_model.specs.Objects.{is_live}
use Rattle.ad_dir_model.specs.Edits.{rename_edits}
use Rattle.ad_change.specs.Effects.{later_checks}
use Rattle.ad_change.specs.Judging.{AreNeeded}
use Rattle.ad_change.proofs.RenameMay.{renaming_is}
use Rattle.ad_change.proofs.Resolved.{renaming}
use Rattle.ad_change.proofs.renaming.rename_plan.Goals as goal

pub judge_rename-requires-clause-live : goal.judge_rename-requires-clause-live
judge_rename-requires-clause-live c =
    (renaming c.args.dir.now c.requires.resolved.0 c.args.target c.args.parent c.args.name.now c.requires.sound
    c.requires.resolved.1).live

pub judge_rename-requires-clause-parent : goal.judge_rename-requires-clause-parent
judge_rename-requires-clause-parent c =
    (renaming c.args.dir.now c.requires.resolved.0 c.args.target c.args.parent c.args.name.now c.requires.sound
    c.requires.resolved.1).parent_live

pub judge_rename-requires-clause-name : goal.judge_rename-requires-clause-name
judge_rename-requires-clause-name c =
    (renaming c.args.dir.now c.requires.resolved.0 c.args.target c.args.parent c.args.name.now c.requires.sound
    c.requires.resolved.1).value

pub edits_of-requires-clause-live : goal.edits_of-requires-clause-live
edits_of-requires-clause-live c =
    (renaming c.args.dir.now c.requires.resolved.0 c.args.target c.args.parent c.args.name.now c.requires.sound
    c.requires.resolved.1).live

pub edits_of-requires-clause-parent : goal.edits_of-requires-clause-parent
edits_of-requires-clause-parent c =
    subst (λ (p : ℕ). is_live c.args.dir.now.objects p ≡ true) (sym (ap (λ (o : Object). o.parent) c.in-Ok.ensures.1))
    (renaming c.args.dir.now c.requires.resolved.0 c.args.target c.args.parent c.args.name.now c.requires.sound
    c.requires.resolved.1).parent_live

pub returns-in_ok-edits_of-in-Ok : goal.returns-in_ok-edits_of-in-Ok
returns-in_ok-edits_of-in-Ok c = λ token.
    let edits = c.in_ok-edits_of-in-Ok.field-0 in
    renaming_is c.args.dir.now token c.args.target c.args.parent c.args.name.now edits c.requires.sound
    (renaming c.args.dir.now c.requires.resolved.0 c.args.target c.args.parent c.args.name.now c.requires.sound
    c.requires.resolved.1) c.in-Ok.ensures.0
    (subst (λ (n : List ℕ). AreNeeded c.args.dir.now (rename_edits c.args.dir.now c.args.target c.args.parent n)
    edits) (ap (λ (o : Object). o.name) c.in-Ok.ensures.1)
    (subst (λ (p : ℕ). AreNeeded c.args.dir.now (rename_edits c.args.dir.now c.args.target p c.in-Ok.object.name)
    edits) (ap (λ (o : Object). o.parent) c.in-Ok.ensures.1)
    c.in_ok-edits_of-in-Ok.ensures))

pub returns-in_ok-code-in-Err : goal.returns-in_ok-code-in-Err
unfolding later_checks
returns-in_ok-code-in-Err c = λ token. rw c.in_ok-code-in-Err.ensures at c.in-Err.ensures
