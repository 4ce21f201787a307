-- The tests and searches of a line, on lists.
use Rattle.std.proofs.Common.{◌≡◌, ℕ, zero, suc, ◌<◌, ◌==◌, ◌↔◌, Bool, true, false, List, [], ◌∷◌, map, length}
use Rattle.std.proofs.Common.{get_or, Option, None, Some, MatchOption, refl, arith}
use Rattle.std.specs.List.{list_any, position_or_len}
use Rattle.std.specs.Str.{str_eq_ignore_ascii_case}
use Rattle.std.specs.Char.{to_ascii_lowercase}
use Rattle.std.proofs.lemmas.Bool.{or_right, false_from_ne_true}
use Rattle.std.proofs.lemmas.Bool.Decides.{same_from_decides}
use Rattle.std.proofs.lemmas.Slice.Eq.{bytes_eq-Decides}
use Rattle.std.proofs.lemmas.List.Sums.{position_or_len_is}
use Rattle.memchr.specs.Find.{IsFirstByte, is_byte}

-- ---- the first place of a byte

any_none : (p : ℕ → Bool) (bytes : List ℕ) → ((k : ℕ) → k < length bytes → p (get_or bytes k 0) ≡ false)
    → list_any p bytes ≡ false
any_none p [] none = refl
any_none p (b ∷ bytes) none = let first : p b ≡ false = none 0 (omega arith)
    in rw (first, any_none p bytes (λ k h. none (suc k) (omega (arith, h)))) refl

any_at : (p : ℕ → Bool) (bytes : List ℕ) (n : ℕ) → n < length bytes → p (get_or bytes n 0) ≡ true → list_any p bytes
    ≡ true
any_at p [] n lt e = absurd (omega (arith, lt))
any_at p (b ∷ bytes) zero lt e = rw e refl
any_at p (b ∷ bytes) (suc n) lt e = or_right (p b) _ (any_at p bytes n (omega (arith, lt)) e)

pub place_is : (byte : ℕ) (text : List ℕ) (r : Option ℕ) → IsFirstByte (is_byte byte) text r
    → MatchOption r (list_any (λ b. b == byte) text ≡ false) (λ n. (list_any (λ b. b == byte) text ≡ true)
    × (position_or_len (λ b. b == byte) text ≡ n) × (n < length text))
place_is byte text None found = any_none (λ b. b == byte) text (λ k lt. false_from_ne_true _ (found k (omega arith) lt))
place_is byte text (Some n) found = (
  any_at (λ b. b == byte) text n found.0.high found.1,
  position_or_len_is (λ b. b == byte) text n 0
      (omega (arith, found.0.high)) (λ k lt. false_from_ne_true _ (found.0.before k (omega arith) lt))
      (λ h. found.1),
  found.0.high,
)

-- ---- names in either case

pub word_is : (same : Bool) (found name : List ℕ)
    → ((same ≡ true) ↔ (map to_ascii_lowercase found ≡ map to_ascii_lowercase name)) → same ≡ str_eq_ignore_ascii_case
    found name
word_is same found name test = same_from_decides _ _ (test.0, test.1)
    (bytes_eq-Decides (map to_ascii_lowercase found) (map to_ascii_lowercase name))
