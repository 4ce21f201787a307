use Rattle.ad_dir.proofs.NameLaws.{if_ok}
use Rattle.ad_needs_rules.specs.Judged.{asked}
use Rattle.ad_needs.proofs.AddLaws.{child_not, child_so}
use Rattle.std.proofs.Common.{Bool, Some, None, [], ◌∷◌, ap}
use Rattle.ad_acl.specs.Mask.{create_child}
use Rattle.ad_needs_rules.specs.Needs.{Alternative, needs}
use Rattle.ad_needs_rules.specs.Requests.{class_path}
use Rattle.ad_needs_rules.specs.Adding.{brings_sacl, sacl_needs}
use Rattle.ad_needs.proofs.StepLaws.{same_steps, stops, follows}
use Rattle.ad_needs.proofs.adding.unless_creates.Goals as goal

pub returns-in-Some-clause-refusal : goal.returns-in-Some-clause-refusal
returns-in-Some-clause-refusal c =
    child_not c.args.dir.now c.args.token.now c.args.parent c.args.class.0 (asked c.on_children-create.result)
    c.args.sd.now c.in-Some.refusal c.on_children-create.ensures.asked
    (rw c.in-Some.is at c.in_ok-refusal.ensures.refusal)

pub returns-clause-refusal : goal.returns-clause-refusal
returns-clause-refusal c =
    if_ok c.unless_audits.result
    (λ found is. child_so c.args.dir.now c.args.token.now c.args.parent c.args.class.0
    (asked c.on_children-create.result) c.args.sd.now c.brings_sacl.result found c.on_children-create.ensures.asked
    (rw c.in_default.is at c.in_ok-refusal.ensures.refusal) c.brings_sacl.ensures is)
    c.unless_audits.ensures.refusal

pub returns-in-Some-clause-steps : goal.returns-in-Some-clause-steps
returns-in-Some-clause-steps c =
    let dir = c.args.dir.now in
    let token = c.args.token.now in
    let parent = c.args.parent in
    stops dir token c.args.trace.now c.require.new.trace
    ((needs parent create_child (class_path dir.schema c.args.class.0) ∷ []) ∷ [])
    (sacl_needs parent (brings_sacl c.args.sd.now)) c.in-Some.refusal
    (same_steps dir token c.args.trace.now c.require.new.trace _ _ (Some c.in-Some.refusal)
    (ap (λ (a : Alternative). (a ∷ []) ∷ []) c.on_children-create.ensures.asked)
    (rw c.in-Some.is at c.in_ok-refusal.ensures.steps))

pub returns-clause-steps : goal.returns-clause-steps
returns-clause-steps c =
    let dir = c.args.dir.now in
    let token = c.args.token.now in
    let parent = c.args.parent in
    if_ok c.unless_audits.result
    (λ found next. follows dir token c.args.trace.now c.require.new.trace c.unless_audits.new.trace
    ((needs parent create_child (class_path dir.schema c.args.class.0) ∷ []) ∷ [])
    (sacl_needs parent (brings_sacl c.args.sd.now)) found
    (same_steps dir token c.args.trace.now c.require.new.trace _ _ None
    (ap (λ (a : Alternative). (a ∷ []) ∷ []) c.on_children-create.ensures.asked)
    (rw c.in_default.is at c.in_ok-refusal.ensures.steps))
    (same_steps dir token c.require.new.trace c.unless_audits.new.trace _ _ found
    (ap (λ (b : Bool). sacl_needs parent b) c.brings_sacl.ensures) next))
    c.unless_audits.ensures.steps
