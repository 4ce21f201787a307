use Rattle.std.proofs.Common.{◌≡◌, Bool, true, false, not, ◌&&◌, ◌||◌, refl, ap, ◌∙◌, arith}
use Rattle.std.specs.Int.{bit_not, w32}
use Rattle.ad_acl.specs.Mask.{has_bit}
use Rattle.ad_acl.proofs.MaskLaws.{has_bit-and, has_bit-or, has_bit-not}
use Rattle.ad_access.proofs.found.decided.Goals as goal

left : (undecided rights about : Bool) → undecided && not ((undecided && rights) && about) ≡ undecided
    && not (about && rights)
left false rights about = refl
left true false false = refl
left true false true = refl
left true true false = refl
left true true true = refl

given : (allowed undecided rights about allows : Bool) → allowed || (((undecided && rights) && about) && allows)
    ≡ allowed || ((undecided && (about && rights)) && allows)
given allowed false rights about allows = refl
given allowed true false false allows = refl
given allowed true false true allows = refl
given allowed true true false allows = refl
given allowed true true true allows = refl

pub returns : goal.returns
returns c =
    let f = c.args.found.now in
    let rights = c.args.rights in
    let about = c.args.about in
    let d = c.rights_if-decided.result in
    record {
      about_is = refl;
      undecided = λ bit lt.
          has_bit-and f.undecided (bit_not w32 d) bit
          ∙ ap (λ (b : Bool). has_bit f.undecided bit && b)
          (has_bit-not d bit (omega arith) lt
          ∙ ap not (c.rights_if-decided.ensures bit ∙ ap (λ (b : Bool). b && about)
          (has_bit-and f.undecided rights bit)))
          ∙ left (has_bit f.undecided bit) (has_bit rights bit) about;
      allowed = λ bit lt.
          has_bit-or f.allowed c.rights_if.result bit
          ∙ ap (λ (b : Bool). has_bit f.allowed bit || b)
          (c.rights_if.ensures bit ∙ ap (λ (b : Bool). b && c.args.allows)
          (c.rights_if-decided.ensures bit ∙ ap (λ (b : Bool). b && about) (has_bit-and f.undecided rights bit)))
          ∙ given (has_bit f.allowed bit) (has_bit f.undecided bit) (has_bit rights bit) about c.args.allows;
    }
