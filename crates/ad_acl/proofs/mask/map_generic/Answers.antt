use Rattle.std.proofs.Common.{refl}
use Rattle.ad_acl.specs.Mask.{generic_all, generic_execute, generic_write, generic_read}
use Rattle.ad_acl.proofs.MaskLaws.{has_bit-and, has_bit-or, has_bit-ones}
use Rattle.ad_acl.proofs.mask.map_generic.Goals as goal

pub returns : goal.returns
returns c = λ bit _.
    simp (
      has_bit-or,
      has_bit-and,
      has_bit-ones generic_all bit,
      c.stood_for.ensures generic_all bit refl,
      c.stood_for-2.ensures generic_execute bit refl,
      c.stood_for-3.ensures generic_write bit refl,
      c.stood_for-4.ensures generic_read bit refl,
    )
