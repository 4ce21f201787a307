use Rattle.std.proofs.Common.{◌∷◌}
use Rattle.std.specs.Prelude.{codes}
use Rattle.ad_schema.specs.Classes.{naming_of}
use Rattle.ad_dir_model.specs.Attributes.{attr_place}
use Rattle.ad_dir.proofs.NameLaws.{if_ok}
use Rattle.ad_needs_rules.specs.Requests.{class_at}
use Rattle.ad_needs_rules.specs.Renaming.{move_needs, to_write, name_needs}
use Rattle.ad_needs.proofs.RenameLaws.{needs_stop, needs_go_on}
use Rattle.ad_needs.proofs.StepLaws.{stops, follows}
use Rattle.ad_needs.proofs.renaming.unless_renames.Goals as goal

pub returns-in-Some-clause-refusal : goal.returns-in-Some-clause-refusal
returns-in-Some-clause-refusal c =
    let dir = c.args.dir.now in
    let number = c.args.number in
    needs_stop dir c.args.token.now (move_needs dir number c.args.parent)
    (to_write dir number (naming_of dir.schema (class_at dir number))
    ∷ name_needs dir number (attr_place dir.schema (codes "name"))) c.in-Some.refusal
    (rw c.in-Some.is at c.in_ok-refusal.ensures.refusal)

pub returns-clause-refusal : goal.returns-clause-refusal
returns-clause-refusal c =
    let dir = c.args.dir.now in
    let number = c.args.number in
    if_ok c.unless_named.result
    (λ found is. needs_go_on dir c.args.token.now (move_needs dir number c.args.parent)
    (to_write dir number (naming_of dir.schema (class_at dir number))
    ∷ name_needs dir number (attr_place dir.schema (codes "name"))) found
    (rw c.in_default.is at c.in_ok-refusal.ensures.refusal) is)
    c.unless_named.ensures.refusal

pub returns-in-Some-clause-steps : goal.returns-in-Some-clause-steps
returns-in-Some-clause-steps c =
    let dir = c.args.dir.now in
    let number = c.args.number in
    stops dir c.args.token.now c.args.trace.now c.unless_moves.new.trace (move_needs dir number c.args.parent)
    (to_write dir number (naming_of dir.schema (class_at dir number))
    ∷ name_needs dir number (attr_place dir.schema (codes "name"))) c.in-Some.refusal
    (rw c.in-Some.is at c.in_ok-refusal.ensures.steps)

pub returns-clause-steps : goal.returns-clause-steps
returns-clause-steps c =
    let dir = c.args.dir.now in
    let number = c.args.number in
    if_ok c.unless_named.result
    (λ found next. follows dir c.args.token.now c.args.trace.now c.unless_moves.new.trace c.unless_named.new.trace
    (move_needs dir number c.args.parent)
    (to_write dir number (naming_of dir.schema (class_at dir number))
    ∷ name_needs dir number (attr_place dir.schema (codes "name"))) found
    (rw c.in_default.is at c.in_ok-refusal.ensures.steps) next)
    c.unless_named.ensures.steps
