use Rattle.ad_filter.proofs.Compared.{said_of_pieces}
use Rattle.ad_filter.proofs.judging.fitting.Goals as goal

pub returns-in_ok-any-in-Some : goal.returns-in_ok-any-in-Some
returns-in_ok-any-in-Some c =
    said_of_pieces c.args.values.now.syntax c.args.sent.now c.in-Some.pattern c.args.values.now.all.items
    c.in_ok-any-in-Some.any c.truth_of.result
    (rw c.in-Some.is at c.in_ok-pattern.ensures) (rw c.as_slice.ensures.value at c.in_ok-any-in-Some.ensures)
    c.truth_of.ensures
