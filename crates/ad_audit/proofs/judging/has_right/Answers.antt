use Rattle.std.proofs.Common.{ap, ◌∙◌, Bool, ◌&&◌}
use Rattle.std.specs.Prelude.{bit_and}
use Rattle.std.proofs.Math.Bool.{and_comm}
use Rattle.ad_acl.specs.Mask.{has_bit}
use Rattle.ad_acl.proofs.MaskLaws.{has_bit-and}
use Rattle.ad_audit.specs.Audited.{has_right}
use Rattle.ad_audit.proofs.RightLaws.{one_below, few}
use Rattle.ad_audit.proofs.judging.has_right.Goals as goal

pub returns : goal.returns
unfolding has_right
returns c =
    let mapped = c.map_generic.result in
    one_below 32 (bit_and mapped c.args.right) c.args.mask c.args.right (few mapped c.args.right c.ranges.right.fits)
    (λ bit lt. has_bit-and mapped c.args.right bit
    ∙ and_comm (has_bit mapped bit) (has_bit c.args.right bit)
    ∙ ap (λ (b : Bool). has_bit c.args.right bit && b) (c.map_generic.ensures bit lt))
