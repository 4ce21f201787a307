use Rattle.std.proofs.Common.{ℕ, ap, ◌∙◌, get_or, arith}
use Rattle.std.specs.Prelude.{bit_or}
use Rattle.std.proofs.Math.Bool.{or_comm}
use Rattle.ad_acl.specs.Mask.{has_bit}
use Rattle.ad_acl.proofs.MaskLaws.{has_bit-or}
use Rattle.ad_access.proofs.InPlace.{in_place_none, in_place_more}
use Rattle.ad_access.proofs.tree.add.Goals as goal

pub loop-i-init : goal.loop-i-init
loop-i-init c = in_place_none (λ (place n : ℕ). bit_or n c.args.more) c.args.rights.now

pub loop-i-preserved : goal.loop-i-preserved
loop-i-preserved c = in_place_more (λ (place n : ℕ). bit_or n c.args.more) c.args.rights.now c.loop-i.rights
    c.loop-i.i (omega (arith, c.loop-i-test.true, c.loop-i.invariant.len)) c.loop-i.invariant

pub returns-clause-added : goal.returns-clause-added
returns-clause-added c = λ place bit lt.
    ap (λ (n : ℕ). has_bit n bit) (c.loop-i.invariant.done place
    (omega (arith, lt, c.loop-i-test.false, c.loop-i.invariant.len)))
    ∙ has_bit-or (get_or c.args.rights.now place 0) c.args.more bit
    ∙ or_comm (has_bit (get_or c.args.rights.now place 0) bit) (has_bit c.args.more bit)
