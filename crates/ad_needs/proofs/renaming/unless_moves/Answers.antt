use Rattle.std.proofs.Common.{◌∙◌, ℕ, sym, ap, Some, None, [], ◌∷◌}
use Rattle.ad_acl.specs.Mask.{create_child}
use Rattle.ad_dir.proofs.NameLaws.{if_ok}
use Rattle.ad_needs_rules.specs.Judged.{asked}
use Rattle.ad_needs_rules.specs.Needs.{needs, Alternative}
use Rattle.ad_needs_rules.specs.Requests.{class_path, class_at}
use Rattle.ad_needs.proofs.RenameLaws.{stays, leaves_not, leaves, resting, moving}
use Rattle.ad_needs_rules.specs.Deleting.{to_leave}
use Rattle.ad_needs.proofs.StepLaws.{none_asked, same_steps, stops, follows}
use Rattle.ad_needs.proofs.renaming.unless_moves.Goals as goal

pub returns-then-parent_of-parent-clause-refusal : goal.returns-then-parent_of-parent-clause-refusal
returns-then-parent_of-parent-clause-refusal c = stays c.args.dir.now c.args.token.now c.args.number c.args.parent
    (sym c.parent_of.ensures.parent ∙ c.if-parent_of-parent.true)

pub returns-in-Some-clause-refusal : goal.returns-in-Some-clause-refusal
returns-in-Some-clause-refusal c =
    leaves_not c.args.dir.now c.args.token.now c.args.number c.args.parent c.in-Some.refusal
    (λ e. c.if-parent_of-parent.false (c.parent_of.ensures.parent ∙ e))
    (rw c.in-Some.is at c.in_ok-refusal.ensures.refusal)

pub returns-clause-refusal : goal.returns-clause-refusal
returns-clause-refusal c =
    if_ok c.require.result
    (λ found is. leaves c.args.dir.now c.args.token.now c.args.number c.args.parent
    (asked c.on_children-create.result) found (λ e. c.if-parent_of-parent.false (c.parent_of.ensures.parent ∙ e))
    (c.on_children-create.ensures.asked
    ∙ ap (λ (class : ℕ). needs c.args.parent create_child (class_path c.args.dir.now.schema class))
    c.class_of.ensures.class)
    (rw c.in_default.is at c.in_ok-refusal.ensures.refusal) is)
    c.require.ensures.refusal

pub returns-then-parent_of-parent-clause-steps : goal.returns-then-parent_of-parent-clause-steps
returns-then-parent_of-parent-clause-steps c =
    let dir = c.args.dir.now in
    same_steps dir c.args.token.now c.args.trace.now c.args.trace.now _ _ None
    (resting dir c.args.number c.args.parent (sym c.parent_of.ensures.parent ∙ c.if-parent_of-parent.true))
    (none_asked dir c.args.token.now c.args.trace.now)

pub returns-in-Some-clause-steps : goal.returns-in-Some-clause-steps
returns-in-Some-clause-steps c =
    let dir = c.args.dir.now in
    let token = c.args.token.now in
    let number = c.args.number in
    let create : Alternative = needs c.args.parent create_child (class_path dir.schema (class_at dir number)) in
    same_steps dir token c.args.trace.now c.unless_leaves.new.trace _ _ (Some c.in-Some.refusal)
    (moving dir number c.args.parent (λ e. c.if-parent_of-parent.false (c.parent_of.ensures.parent ∙ e)))
    (stops dir token c.args.trace.now c.unless_leaves.new.trace (to_leave dir number ∷ []) ((create ∷ []) ∷ [])
    c.in-Some.refusal (rw c.in-Some.is at c.in_ok-refusal.ensures.steps))

pub returns-clause-steps : goal.returns-clause-steps
returns-clause-steps c =
    let dir = c.args.dir.now in
    let token = c.args.token.now in
    let number = c.args.number in
    let create : Alternative = needs c.args.parent create_child (class_path dir.schema (class_at dir number)) in
    if_ok c.require.result
    (λ found next. same_steps dir token c.args.trace.now c.require.new.trace _ _ found
    (moving dir number c.args.parent (λ e. c.if-parent_of-parent.false (c.parent_of.ensures.parent ∙ e)))
    (follows dir token c.args.trace.now c.unless_leaves.new.trace c.require.new.trace (to_leave dir number ∷ [])
    ((create ∷ []) ∷ []) found (rw c.in_default.is at c.in_ok-refusal.ensures.steps)
    (same_steps dir token c.unless_leaves.new.trace c.require.new.trace _ _ found
    (ap (λ (a : Alternative). (a ∷ []) ∷ []) (c.on_children-create.ensures.asked
    ∙ ap (λ (class : ℕ). needs c.args.parent create_child (class_path dir.schema class)) c.class_of.ensures.class))
    next)))
    c.require.ensures.steps
