use Rattle.ad_value.proofs.PiecesLaws.{begins, begins_not}
use Rattle.ad_value.proofs.pattern.after_initial.Goals as goal

pub returns-in-Some-strip_prefix : goal.returns-in-Some-strip_prefix
returns-in-Some-strip_prefix c =
    let found = rw c.as_slice.ensures at c.in-Some-strip_prefix.ensures.cases in
    begins c.args.first.now c.in-Some.first c.args.text.now c.in-Some-strip_prefix.rest.now c.in-Some.is found.0 found.1

pub returns-in-None-strip_prefix : goal.returns-in-None-strip_prefix
returns-in-None-strip_prefix c = λ rest e.
    let other = rw c.as_slice.ensures at c.in-None-strip_prefix.ensures.cases in
    begins_not c.args.first.now c.in-Some.first c.args.text.now rest c.in-Some.is other e
