-- A mask of which a test asks whether it is 0, bit by bit.
use Rattle.std.proofs.Common.{◌≡◌, ℕ, zero, suc, ◌*◌, ◌<◌, ◌≤◌, ◌^◌, ◌/◌, ◌%◌, Bool, true, false, not, ◌&&◌, ◌||◌}
use Rattle.std.proofs.Common.{sym, refl, ap, ◌∙◌, inl, inr, arith}
use Rattle.std.specs.Prelude.{nat_eq, bit_and, ◌==◌}
use Rattle.std.proofs.lemmas.Nat.{and_le_r}
use Rattle.std.proofs.lemmas.Bool.{cases_lt, ne_eqb, eq-eqb}
use Rattle.std.proofs.Math.Nat.{div-eq_of_lt-le, lt_of_le_of_lt}
use Rattle.ad_acl.specs.Mask.{has_bit, mapped_has}
use Rattle.ad_acl.proofs.MaskLaws.{has_bit-zero}
use Rattle.ad_audit.specs.Audited.{has_right_below}

-- rights among those of a mask of 32 bits
pub few : (mapped right : ℕ) → right < 2 ^ 32 → bit_and mapped right < 2 ^ 32
few mapped right fits = lt_of_le_of_lt (and_le_r mapped right) fits

-- a number with its greatest bit
top_set : (n k : ℕ) → n < 2 ^ suc k → 2 ^ k ≤ n → has_bit n k ≡ true
unfolding has_bit
top_set n k small large =
    let double : 2 ^ suc k ≡ 2 * 2 ^ k = omega arith in
    let one : n / 2 ^ k ≡ 1 = div-eq_of_lt-le (2 ^ k) (omega arith) (omega arith) in
    ap (λ (q : ℕ). q % 2 == 1) one

-- and without it
clear_top : (n k : ℕ) → n < 2 ^ suc k → has_bit n k ≡ false → n < 2 ^ k
clear_top n k small clear =
    elim (cases_lt n (2 ^ k)) [
      | inl below ↦ below
      | inr above ↦ let set = top_set n k small above in absurd cc
    ]

by_top : (b : Bool) (k n mask rights : ℕ) → has_bit n k ≡ b → n < 2 ^ suc k → has_bit n k ≡ has_bit rights k
    && mapped_has mask k
    → (n < 2 ^ k → not (nat_eq n 0) ≡ has_right_below k mask rights) → not (nat_eq n 0) ≡ has_right_below (suc k) mask
    rights
unfolding has_right_below
by_top true k n mask rights top small here below =
    let above : not (nat_eq n 0) ≡ true = ap not
    (ne_eqb n 0 (λ e. let zero : has_bit n k ≡ false = ap (λ (m : ℕ). has_bit m k) e ∙ has_bit-zero k
    in absurd cc)) in
    above ∙ sym (ap (λ (b : Bool). b || has_right_below k mask rights) (sym here ∙ top))
by_top false k n mask rights top small here below =
    below (clear_top n k small top) ∙ sym (ap (λ (b : Bool). b || has_right_below k mask rights) (sym here ∙ top))

pub one_below : (k n mask rights : ℕ) → n < 2 ^ k
    → ((bit : ℕ) → bit < k → has_bit n bit ≡ has_bit rights bit && mapped_has mask bit)
    → not (nat_eq n 0) ≡ has_right_below k mask rights
unfolding has_right_below
one_below zero n mask rights small agree = ap not (eq-eqb n 0 (omega arith))
one_below (suc k) n mask rights small agree =
    by_top (has_bit n k) k n mask rights refl small (agree k (omega arith))
    (λ less. one_below k n mask rights less (λ bit lt. agree bit (omega arith)))
