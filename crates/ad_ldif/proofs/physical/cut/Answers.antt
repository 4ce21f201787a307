use Rattle.std.proofs.Common.{arith}
use Rattle.std.proofs.lemmas.Bool.{eqb-true, eq-eqb}
use Rattle.ad_ldif.proofs.CutLemmas.{cut_all, cut_front}
use Rattle.ad_ldif.proofs.physical.cut.Goals as goal

pub returns-in-None-clause-line : goal.returns-in-None-clause-line
returns-in-None-clause-line c = cut_all c.args.text.now c.requires
    (λ k lt is. c.in-None.ensures k (omega arith) lt (eq-eqb _ _ is))

pub returns-in-Some-clause-line : goal.returns-in-Some-clause-line
returns-in-Some-clause-line c =
    let found = c.in-Some.ensures in
    cut_front c.args.text.now _ c.in-Some.end c.drop_cr.ensures
    (λ k lt is. found.0.before k (omega arith) lt (eq-eqb _ _ is)) found.0.high (eqb-true _ _ found.1)
