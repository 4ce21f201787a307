use Rattle.ad_filter.proofs.Compared.{said}
use Rattle.ad_filter.proofs.judging.compared.Goals as goal

pub returns-in_ok-any-in-Some : goal.returns-in_ok-any-in-Some
returns-in_ok-any-in-Some c =
    said c.args.comparison c.args.values.now.syntax c.args.sent.now c.args.values.now.all.items c.in-Some.sent
    c.in_ok-any-in-Some.any c.truth_of.result
    c.if-not-is_asked_of.ensures (rw c.in-Some.is at c.in_ok-sent.ensures) c.in_ok-any-in-Some.ensures
    c.truth_of.ensures
