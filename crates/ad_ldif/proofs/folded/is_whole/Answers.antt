use Rattle.std.proofs.Common.{◌≡◌, ◌+◌, ◌-◌, length, arith}
use Rattle.std.proofs.lemmas.Bool.{eqb-true}
use Rattle.std.proofs.lemmas.Bool.Decides.{nat_tests}
use Rattle.ad_ldif.proofs.FoldLemmas.{whole}
use Rattle.ad_ldif.proofs.folded.is_whole.Goals as goal

pub returns : goal.returns
returns c = λ e after.
    let last : length c.args.text.now - 1 + 1 ≡ length c.args.text.now = grind (arith, nat_tests) in
    whole c.args.text.now after _ last (eqb-true _ _ e)
