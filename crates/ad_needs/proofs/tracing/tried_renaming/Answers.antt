use Rattle.std.proofs.Common.{sym, ◌∙◌}
use Rattle.ad_needs.proofs.ReachLaws.{rename_reaches}
use Rattle.ad_needs.proofs.TracedLaws.{renaming_tried}
use Rattle.ad_needs.proofs.tracing.tried_renaming.Goals as goal

pub found-requires-clause-name : goal.found-requires-clause-name
found-requires-clause-name c = rw c.as_slice.ensures
    (rename_reaches c.args.dir.now c.args.token.now c.args.rename.now c.requires.0 c.requires.1).object.one.name

pub found-requires-clause-seen : goal.found-requires-clause-seen
found-requires-clause-seen c = rw c.as_slice.ensures
    (rename_reaches c.args.dir.now c.args.token.now c.args.rename.now c.requires.0 c.requires.1).object.one.seen

pub new_parent-requires-clause-below : goal.new_parent-requires-clause-below
new_parent-requires-clause-below c =
    λ same. (rename_reaches c.args.dir.now c.args.token.now c.args.rename.now c.requires.0
    c.requires.1).object.below (sym (rw c.as_slice.ensures at c.in_ok-number.ensures.number) ∙ same)

pub new_parent-requires-clause-superior : goal.new_parent-requires-clause-superior
new_parent-requires-clause-superior c = (rename_reaches c.args.dir.now c.args.token.now c.args.rename.now
    c.requires.0 c.requires.1).superior

pub unless_renames-requires-clause-below : goal.unless_renames-requires-clause-below
unless_renames-requires-clause-below c =
    λ same. (rename_reaches c.args.dir.now c.args.token.now c.args.rename.now c.requires.0
    c.requires.1).object.below (sym (rw c.as_slice.ensures at c.in_ok-number.ensures.number) ∙ same)

pub returns : goal.returns
returns c = λ s.
    renaming_tried c.args.dir.now c.args.token.now c.args.rename.now s c.in_ok-number.number
    c.in_ok-parent.parent c.new_trace-trace.result c.unless_renames.new.trace c.in_ok-unless_renames.field-0
    (rw c.as_slice.ensures at c.in_ok-number.ensures.number) c.in_ok-parent.ensures.number c.new_trace-trace.ensures
    c.in_ok-unless_renames.ensures.steps
