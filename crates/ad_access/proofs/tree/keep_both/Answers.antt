use Rattle.std.proofs.Common.{ℕ, ap, ◌∙◌, get_or, arith}
use Rattle.std.specs.Prelude.{bit_and}
use Rattle.ad_acl.specs.Mask.{has_bit}
use Rattle.ad_acl.proofs.MaskLaws.{has_bit-and}
use Rattle.ad_access.proofs.InPlace.{in_place_none, in_place_more}
use Rattle.ad_access.proofs.tree.keep_both.Goals as goal

pub loop-i-init : goal.loop-i-init
loop-i-init c = in_place_none (λ (place n : ℕ). bit_and n (get_or c.args.second.now place 0)) c.args.first.now

pub loop-i-preserved : goal.loop-i-preserved
loop-i-preserved c = in_place_more (λ (place n : ℕ). bit_and n (get_or c.args.second.now place 0)) c.args.first.now
    c.loop-i.first c.loop-i.i (omega (arith, c.loop-i-test.true, c.loop-i.invariant.len, c.requires))
    c.loop-i.invariant

pub returns-clause-both : goal.returns-clause-both
returns-clause-both c = λ place bit lt.
    ap (λ (n : ℕ). has_bit n bit) (c.loop-i.invariant.done place (omega (arith, lt, c.loop-i-test.false, c.requires)))
    ∙ has_bit-and (get_or c.args.first.now place 0) (get_or c.args.second.now place 0) bit
