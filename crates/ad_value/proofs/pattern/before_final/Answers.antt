use Rattle.ad_value.proofs.PiecesLaws.{ends, ends_not}
use Rattle.ad_value.proofs.pattern.before_final.Goals as goal

pub returns-in-Some-strip_suffix : goal.returns-in-Some-strip_suffix
returns-in-Some-strip_suffix c =
    let found = rw c.as_slice.ensures at c.in-Some-strip_suffix.ensures.cases in
    ends c.args.last.now c.in-Some.last c.args.text.now c.in-Some-strip_suffix.prefix.now c.in-Some.is found.0 found.1

pub returns-in-None-strip_suffix : goal.returns-in-None-strip_suffix
returns-in-None-strip_suffix c = λ prefix e.
    let other = rw c.as_slice.ensures at c.in-None-strip_suffix.ensures.cases in
    ends_not c.args.last.now c.in-Some.last c.args.text.now prefix c.in-Some.is other e
