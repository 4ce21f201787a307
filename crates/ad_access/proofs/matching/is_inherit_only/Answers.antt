use Rattle.std.proofs.Common.{ℕ, ap, ◌∙◌}
use Rattle.ad_acl.specs.Mask.{has_bit, inherit_only}
use Rattle.ad_acl.proofs.MaskLaws.{masked}
use Rattle.ad_access.proofs.matching.is_inherit_only.Goals as goal

pub returns : goal.returns
returns c = masked c.flags.result inherit_only ∙ ap (λ (n : ℕ). has_bit n inherit_only) c.flags.ensures.value
