use Rattle.std.proofs.Common.{ap, sym, ◌∙◌, Bool, ◌&&◌}
use Rattle.std.proofs.Math.Bool.{and-false, and-true}
use Rattle.ad_acl.specs.Mask.{has_bit}
use Rattle.ad_acl.proofs.MaskLaws.{has_bit-zero}
use Rattle.ad_access.proofs.rights.rights_if.Goals as goal

pub returns-then-so : goal.returns-then-so
returns-then-so c = λ bit. sym (ap (λ (b : Bool). has_bit c.args.rights bit && b) c.if-so.true
    ∙ and-true (has_bit c.args.rights bit))

pub returns-else-so : goal.returns-else-so
returns-else-so c = λ bit. has_bit-zero bit
    ∙ sym (ap (λ (b : Bool). has_bit c.args.rights bit && b) c.if-so.false ∙ and-false (has_bit c.args.rights bit))
