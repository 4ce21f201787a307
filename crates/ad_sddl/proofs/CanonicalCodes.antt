-- The codes of a mask encode it.
use Rattle.std.proofs.Common.{Bool, eqb, not, true, false, cond, max, min, ◌≡◌, inl, inr, ℕ, ◌*◌, ◌^◌, ◌<◌}
use Rattle.std.proofs.Common.{if◌then◌else◌, List, [], ◌∷◌, ◌++◌, filter, refl, sym, ap, subst, ◌∙◌, arith}
use Rattle.std.specs.Prelude.{bit_and, bit_or}
use Rattle.std.specs.Int.{bit_at}
use Rattle.std.specs.List.{flat_map, AllByRecursion}
use Rattle.std.specs.Str.{str_to_ascii_lowercase}
use Rattle.std.proofs.lemmas.Bool.{cases_order, eq-eqb, ne_eqb}
use Rattle.std.proofs.lemmas.Nat.{pow_pos}
use Rattle.std.proofs.lemmas.Nat.Bits.{bit_at_and, bit_at_or, bit_at-zero, bit_at-lt, and_pow, same_from_bits}
use Rattle.ad_acl.specs.Entry.{says}
use Rattle.ad_acl.specs.declared.codes.Code.{Code}
use Rattle.ad_sddl.specs.Grammar.{lower_letters, IsIn, with_codes, SpellsCodes}
use Rattle.ad_sddl.specs.Canonical.{code_text, codes_text}
use Rattle.ad_sddl.proofs.CanonicalLower.{lower_append}

-- the codes whose bit the mask has
abbrev pub codes_of : ℕ → List Code → List Code
codes_of mask table = filter (λ c. says mask c.bits) table

each_if : (is : Bool) (P : Code → Type 0) (c : Code) (others : List Code) → P c → AllByRecursion P others
    → AllByRecursion P (cond is (c ∷ others) others)
each_if true P c others p each = (p, each)
each_if false P c others p each = each

each_code : (P : Code → Type 0) (mask : ℕ) (table : List Code) → AllByRecursion P table
    → AllByRecursion P (codes_of mask table)
each_code P mask [] each = tt
each_code P mask (c ∷ table) each = each_if (says mask c.bits) P c (codes_of mask table) each.0
    (each_code P mask table each.1)

-- ---- the text

text_if : (is : Bool) (c : Code) (text : List ℕ) (others : List Code) → text ≡ flat_map lower_letters others
    → str_to_ascii_lowercase (if is then c.letters else []) ++ text
    ≡ flat_map lower_letters (cond is (c ∷ others) others)
text_if true c text others e = ap (λ (t : List ℕ). lower_letters c ++ t) e
text_if false c text others e = e

text_is : (mask : ℕ) (table : List Code) → str_to_ascii_lowercase (codes_text table mask)
    ≡ flat_map lower_letters (codes_of mask table)
text_is mask [] = refl
text_is mask (c ∷ table) =
    lower_append (code_text mask c) (codes_text table mask)
    ∙ text_if (says mask c.bits) c (str_to_ascii_lowercase (codes_text table mask)) (codes_of mask table)
    (text_is mask table)

-- ---- the mask

-- a number of one bit
abbrev pub IsOneBit : ℕ → Type 0
IsOneBit n = (k : ℕ) × (n ≡ 2 ^ k)

-- the bits of all codes
abbrev pub bits_of : List Code → ℕ
bits_of [] = 0
bits_of (c ∷ table) = bit_or c.bits (bits_of table)

or_zero : (m : ℕ) → bit_or m 0 ≡ m
or_zero m = same_from_bits (bit_or m 0) m (λ i. rw (bit_at_or m 0 i, bit_at-zero i) (omega arith))

zero_or : (m : ℕ) → bit_or 0 m ≡ m
zero_or m = same_from_bits (bit_or 0 m) m (λ i. rw (bit_at_or 0 m i, bit_at-zero i) (omega arith))

and_zero : (m : ℕ) → bit_and m 0 ≡ 0
and_zero m = same_from_bits (bit_and m 0) 0 (λ i. rw (bit_at_and m 0 i, bit_at-zero i) (omega arith))

more_bits : (m mask one others : ℕ) → bit_or (bit_or m (bit_and mask one)) (bit_and mask others)
    ≡ bit_or m (bit_and mask (bit_or one others))
more_bits m mask one others = same_from_bits _ _ (λ i.
    bit_at_or (bit_or m (bit_and mask one)) (bit_and mask others) i
    ∙ rw (
      bit_at_or m (bit_and mask one) i,
      bit_at_and mask one i,
      bit_at_and mask others i,
      bit_at_or m
          (bit_and mask (bit_or one others)) i,
      bit_at_and mask (bit_or one others) i,
      bit_at_or one others i,
    )
    (spread (bit_at m i) (bit_at mask i) (bit_at one i) (bit_at others i)))
  where
    spread : (x y a b : ℕ) → max (max x (min y a)) (min y b) ≡ max x (min y (max a b))
    spread x y a b = omega arith

at_one : (p : ℕ) → 0 < p → cond (not (eqb (1 * p) 0)) p 0 ≡ 1 * p
at_one p above = ap (λ (t : Bool). cond (not t) p 0) (ne_eqb (1 * p) 0 (λ e. omega (arith, e, above))) ∙ (omega arith)

at_zero : (p : ℕ) → cond (not (eqb (0 * p) 0)) p 0 ≡ 0 * p
at_zero p = ap (λ (t : Bool). cond (not t) p 0) (eq-eqb (0 * p) 0 (omega arith)) ∙ (omega arith)

at_bit : (b p : ℕ) → b < 2 → 0 < p → cond (not (eqb (b * p) 0)) p 0 ≡ b * p
at_bit b p small above = elim (cases_order b 1) [
  | inl one ↦ subst (λ (x : ℕ). cond (not (eqb (x * p) 0)) p 0 ≡ x * p) (sym one) (at_one p above)
  | inr (inl below) ↦ let none : b ≡ 0 = omega (arith, below)
      in subst (λ (x : ℕ). cond (not (eqb (x * p) 0)) p 0 ≡ x * p) (sym none) (at_zero p)
  | inr (inr more) ↦ absurd (omega (arith, small, more))
]

power_bit : (mask k : ℕ) → cond (says mask (2 ^ k)) (2 ^ k) 0 ≡ bit_and mask (2 ^ k)
power_bit mask k = subst (λ (x : ℕ). cond (not (eqb x 0)) (2 ^ k) 0 ≡ x) (sym (and_pow mask k))
    (at_bit (bit_at mask k) (2 ^ k) (bit_at-lt mask k) (pow_pos k))

one_bit : (mask n : ℕ) → IsOneBit n → cond (says mask n) n 0 ≡ bit_and mask n
one_bit mask n is = subst (λ (x : ℕ). cond (says mask x) x 0 ≡ bit_and mask x) (sym is.1) (power_bit mask is.0)

add_if : (is : Bool) (m : ℕ) (c : Code) (others : List Code) → with_codes m (cond is (c ∷ others) others)
    ≡ with_codes (bit_or m (cond is c.bits 0)) others
add_if true m c others = refl
add_if false m c others = ap (λ (x : ℕ). with_codes x others) (sym (or_zero m))

mask_with : (mask m : ℕ) (table : List Code) → AllByRecursion (λ c. IsOneBit c.bits) table
    → with_codes m (codes_of mask table) ≡ bit_or m (bit_and mask (bits_of table))
mask_with mask m [] each = sym (ap (λ (x : ℕ). bit_or m x) (and_zero mask) ∙ or_zero m)
mask_with mask m (c ∷ table) each =
    add_if (says mask c.bits) m c (codes_of mask table)
    ∙ ap (λ (x : ℕ). with_codes (bit_or m x) (codes_of mask table)) (one_bit mask c.bits each.0)
    ∙ mask_with mask (bit_or m (bit_and mask c.bits)) table each.1
    ∙ more_bits m mask c.bits (bits_of table)

-- ---- both

pub codes_spelled : (table : List Code) → AllByRecursion (IsIn table) table → AllByRecursion (λ c. IsOneBit c.bits)
    table → (mask : ℕ) → bit_and mask (bits_of table) ≡ mask
    → SpellsCodes table mask (str_to_ascii_lowercase (codes_text table mask))
codes_spelled table known bits mask covered = record {
  given = codes_of mask table;
  each = each_code (IsIn table) mask table known;
  mask_is = sym (mask_with mask 0 table bits ∙ zero_or (bit_and mask (bits_of table)) ∙ covered);
  parts = text_is mask table;
}
