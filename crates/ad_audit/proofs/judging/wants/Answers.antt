use Rattle.std.proofs.Common.{ℕ, ap, ◌∙◌}
use Rattle.ad_acl.specs.Mask.{has_bit}
use Rattle.ad_acl.proofs.MaskLaws.{masked}
use Rattle.ad_audit.specs.Audited.{successful_access, failed_access}
use Rattle.ad_audit.proofs.judging.wants.Goals as goal

pub returns-then-success : goal.returns-then-success
returns-then-success c = rw c.if-success.true
    (masked c.flags.result successful_access ∙ ap (λ (n : ℕ). has_bit n successful_access) c.flags.ensures.value)

pub returns : goal.returns
returns c = rw c.if-success.false (masked c.flags-2.result failed_access ∙ ap (λ (n : ℕ). has_bit n failed_access)
    c.flags-2.ensures.value)
