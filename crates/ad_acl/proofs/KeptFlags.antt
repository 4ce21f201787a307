-- The flags of an entry without the bit 0x20.
use Rattle.std.proofs.Common.{◌≡◌, ℕ, zero, suc, ◌+◌, ◌<◌, ◌⊎◌, Bool, true, false, cond, eqb, refl, ap, subst, ◌∙◌}
use Rattle.std.proofs.Common.{arith, inl, inr}
use Rattle.std.specs.Prelude.{◌&&◌, ◌||◌, bit_and}
use Rattle.std.proofs.lemmas.Bool.{eqb-true, cases_lt}
use Rattle.ad_acl.specs.Entry.{SpellsFlags}
use Rattle.ad_bytes.proofs.Steps.{both_true}
use Rattle.ad_acl.specs.Reading.{kept}

-- the test holds of each number below n
abbrev all_below : (ℕ → Bool) → ℕ → Bool
all_below test zero = true
all_below test (suc n) = test n && all_below test n

pub or_true : (p q : Bool) → p || q ≡ true → (p ≡ true) ⊎ (q ≡ true)
or_true true q e = inl refl
or_true false q e = inr e

one_below : (test : ℕ → Bool) (n i : ℕ) → all_below test n ≡ true → i < n → test i ≡ true
one_below test zero i all lt = absurd (omega arith)
one_below test (suc n) i all lt =
    let both = both_true (test n) (all_below test n) all in
    elim (cases_lt i n) [
      | inl below ↦ one_below test n i both.1 below
      | inr above ↦ let same : n ≡ i = omega arith in subst (λ (k : ℕ). test k ≡ true) same both.0
    ]

-- what is kept of a byte has the bit clear, and is the byte or 32 less
abbrev is_kept : ℕ → Bool
is_kept byte = eqb (bit_and (bit_and byte 223) 32) 0
    && (eqb byte (bit_and byte 223) || eqb byte (bit_and byte 223 + 32))

each_kept : all_below is_kept 256 ≡ true
each_kept = refl

kept_parts : (byte : ℕ) → byte < 256 → (eqb (bit_and (bit_and byte 223) 32) 0 ≡ true)
    × ((eqb byte (bit_and byte 223) || eqb byte (bit_and byte 223 + 32)) ≡ true)
kept_parts byte lt = both_true _ _ (one_below is_kept 256 byte each_kept lt)

pub kept-clear : (byte : ℕ) → byte < 256 → bit_and (kept byte) 32 ≡ 0
kept-clear byte lt = eqb-true _ _ (kept_parts byte lt).0

pub kept-spelled : (byte : ℕ) → byte < 256 → SpellsFlags (kept byte) byte
kept-spelled byte lt = record {
  fits = lt;
  clear = kept-clear byte lt;
  with_or_without = elim (or_true (eqb byte (kept byte)) (eqb byte (kept byte + 32)) (kept_parts byte lt).1)
      [ inl same ↦ inl (eqb-true _ _ same) | inr more ↦ inr (eqb-true _ _ more) ];
}

-- what has the bit clear is kept as it is, and so it is with the bit set
abbrev stays : ℕ → Bool
stays n = cond (eqb (bit_and n 32) 0) (eqb (bit_and n 223) n && eqb (bit_and (n + 32) 223) n) true

each_stays : all_below stays 256 ≡ true
each_stays = refl

stays_parts : (flags : ℕ) → flags < 256 → bit_and flags 32 ≡ 0 → (kept flags ≡ flags) × (kept (flags + 32) ≡ flags)
stays_parts flags lt clear =
    let one : cond (eqb (bit_and flags 32) 0) (eqb (bit_and flags 223) flags && eqb (bit_and (flags + 32) 223) flags)
    true ≡ true = one_below stays 256 flags each_stays lt in
    let same : eqb (bit_and flags 223) flags && eqb (bit_and (flags + 32) 223) flags ≡ true
    = subst (λ (n : ℕ). cond (eqb n 0) (eqb (bit_and flags 223) flags && eqb (bit_and (flags + 32) 223) flags)
    true ≡ true) clear one in
    let both = both_true _ _ same in
    (eqb-true _ _ both.0, eqb-true _ _ both.1)

pub spelled-kept : (flags byte : ℕ) → SpellsFlags flags byte → kept byte ≡ flags
spelled-kept flags byte s =
    elim s.with_or_without [
      | inl same ↦ ap kept same ∙ (stays_parts flags (omega (arith, s.fits)) s.clear).0
      | inr more ↦ ap kept more ∙ (stays_parts flags (omega (arith, s.fits)) s.clear).1
    ]
