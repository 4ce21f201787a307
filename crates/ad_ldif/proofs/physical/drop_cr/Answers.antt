use Rattle.std.proofs.Common.{◌≡◌, ◌+◌, ◌-◌, length, sym, arith}
use Rattle.std.proofs.lemmas.Bool.Decides.{nat_tests}
use Rattle.ad_ldif.proofs.CutLemmas.{cr_dropped, no_cr}
use Rattle.ad_ldif.proofs.physical.drop_cr.Goals as goal

pub returns-then-line-last-eq13 : goal.returns-then-line-last-eq13
returns-then-line-last-eq13 c =
    let last : length c.args.line.now - 1 + 1 ≡ length c.args.line.now = grind (arith, nat_tests) in
    sym (cr_dropped c.args.line.now _ last c.if-line-last-eq13.true)

pub returns-else-line-last-eq13 : goal.returns-else-line-last-eq13
returns-else-line-last-eq13 c =
    let last : length c.args.line.now - 1 + 1 ≡ length c.args.line.now = grind (arith, nat_tests) in
    sym (no_cr c.args.line.now _ last c.if-line-last-eq13.false)
