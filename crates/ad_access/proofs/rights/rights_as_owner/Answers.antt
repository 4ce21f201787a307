use Rattle.std.proofs.Common.{◌≡◌, ℕ, ◌<◌, ap, ◌∙◌, Bool, ◌&&◌}
use Rattle.std.proofs.Math.Bool.{and_assoc}
use Rattle.std.specs.Prelude.{bit_and}
use Rattle.ad_acl.specs.Mask.{has_bit}
use Rattle.ad_acl.proofs.MaskLaws.{has_bit-and}
use Rattle.ad_access.specs.Holder.{holds}
use Rattle.ad_access.specs.Rank.{holder_of}
use Rattle.ad_access.specs.Grant.{is_implicit_owner_right}
use Rattle.ad_access.proofs.BitTests.{none_of, has_bit-of_owners}
use Rattle.ad_access.proofs.rights.rights_as_owner.Goals as goal

-- the wanted rights that are owners' rights
of_owners : (want bit : ℕ) (held : Bool) → bit < 32 → has_bit (bit_and want 0x6_0000) bit && held ≡ has_bit want bit
    && (is_implicit_owner_right bit && held)
of_owners want bit held lt =
    ap (λ (b : Bool). b && held) (has_bit-and want 0x6_0000 bit ∙ ap (λ (b : Bool). has_bit want bit && b)
    (has_bit-of_owners bit lt))
    ∙ and_assoc (has_bit want bit) (is_implicit_owner_right bit) held

pub returns-then-rights-eq0 : goal.returns-then-rights-eq0
returns-then-rights-eq0 c = λ bit lt.
    let held : Bool = holds (holder_of c.args.token.now c.args.rank) c.args.owner.now in
    none_of (bit_and c.args.want 0x6_0000) bit held c.if-rights-eq0.true ∙ of_owners c.args.want bit held lt

pub returns : goal.returns
returns c = λ bit lt.
    let held : Bool = holds (holder_of c.args.token.now c.args.rank) c.args.owner.now in
    c.rights_if.ensures bit ∙ ap (λ (b : Bool). has_bit (bit_and c.args.want 0x6_0000) bit && b) c.holds.ensures
    ∙ of_owners c.args.want bit held lt
