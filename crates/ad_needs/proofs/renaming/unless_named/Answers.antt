use Rattle.std.specs.Prelude.{codes}
use Rattle.ad_schema.specs.Classes.{naming_of}
use Rattle.ad_dir_model.specs.Attributes.{attr_place}
use Rattle.ad_dir.proofs.NameLaws.{if_ok}
use Rattle.ad_needs_rules.specs.Requests.{class_at}
use Rattle.ad_needs_rules.specs.Renaming.{name_needs, to_write}
use Rattle.ad_needs.proofs.RenameLaws.{named_not, named_so}
use Rattle.std.proofs.Common.{ℕ, Some, None, [], ◌∷◌, ap}
use Rattle.ad_needs.proofs.StepLaws.{same_steps, stops, follows}
use Rattle.ad_needs.proofs.renaming.unless_named.Goals as goal

pub returns-in-Some-clause-refusal : goal.returns-in-Some-clause-refusal
returns-in-Some-clause-refusal c =
    named_not c.args.dir.now c.args.token.now c.args.number c.naming_of-naming.result.0
    (naming_of c.args.dir.now.schema (class_at c.args.dir.now c.args.number))
    (name_needs c.args.dir.now c.args.number (attr_place c.args.dir.now.schema (codes "name"))) c.in-Some.refusal
    c.naming_of-naming.ensures.naming
    (rw c.in-Some.is at c.in_ok-refusal.ensures.refusal)

pub returns-clause-refusal : goal.returns-clause-refusal
returns-clause-refusal c =
    if_ok c.unless_names.result
    (λ found is. named_so c.args.dir.now c.args.token.now c.args.number c.naming_of-naming.result.0
    (naming_of c.args.dir.now.schema (class_at c.args.dir.now c.args.number))
    (name_needs c.args.dir.now c.args.number (attr_place c.args.dir.now.schema (codes "name"))) found
    c.naming_of-naming.ensures.naming
    (rw c.in_default.is at c.in_ok-refusal.ensures.refusal) is)
    c.unless_names.ensures.refusal

pub returns-in-Some-clause-steps : goal.returns-in-Some-clause-steps
returns-in-Some-clause-steps c =
    let dir = c.args.dir.now in
    let token = c.args.token.now in
    let number = c.args.number in
    stops dir token c.args.trace.now c.unless_writes.new.trace
    (to_write dir number (naming_of dir.schema (class_at dir number)) ∷ [])
    (name_needs dir number (attr_place dir.schema (codes "name"))) c.in-Some.refusal
    (same_steps dir token c.args.trace.now c.unless_writes.new.trace _ _ (Some c.in-Some.refusal)
    (ap (λ (attr : ℕ). to_write dir number attr ∷ []) c.naming_of-naming.ensures.naming)
    (rw c.in-Some.is at c.in_ok-refusal.ensures.steps))

pub returns-clause-steps : goal.returns-clause-steps
returns-clause-steps c =
    let dir = c.args.dir.now in
    let token = c.args.token.now in
    let number = c.args.number in
    if_ok c.unless_names.result
    (λ found next. follows dir token c.args.trace.now c.unless_writes.new.trace c.unless_names.new.trace
    (to_write dir number (naming_of dir.schema (class_at dir number)) ∷ [])
    (name_needs dir number (attr_place dir.schema (codes "name"))) found
    (same_steps dir token c.args.trace.now c.unless_writes.new.trace _ _ None
    (ap (λ (attr : ℕ). to_write dir number attr ∷ []) c.naming_of-naming.ensures.naming)
    (rw c.in_default.is at c.in_ok-refusal.ensures.steps)) next)
    c.unless_names.ensures.steps
