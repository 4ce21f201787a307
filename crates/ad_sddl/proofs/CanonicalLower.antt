-- Texts in lower case.
use Rattle.std.proofs.Common.{◌≡◌, ℕ, ◌^◌, ◌<◌, List, [], ◌∷◌, ◌++◌, decimal, refl, ap, ◌∙◌, arith}
use Rattle.std.specs.Char.{to_ascii_lowercase}
use Rattle.std.specs.Str.{str_to_ascii_lowercase}
use Rattle.std.proofs.lemmas.Str.Ascii.{lowercase_is}
use Rattle.std.proofs.lemmas.Str.Parse.{digit_from_value}
use Rattle.std.proofs.lemmas.Fmt.{decimal_is_IsNumeral}
use Rattle.std.specs.Str.Parse.{AllDigits}

pub lower_append : (a b : List ℕ) → str_to_ascii_lowercase (a ++ b) ≡ str_to_ascii_lowercase a
    ++ str_to_ascii_lowercase b
lower_append [] b = refl
lower_append (x ∷ a) b = ap (λ (t : List ℕ). to_ascii_lowercase x ∷ t) (lower_append a b)

-- a text that is in lower case already
abbrev pub IsLower : List ℕ → Type 0
IsLower text = str_to_ascii_lowercase text ≡ text

pub lower_both : (a b : List ℕ) → IsLower a → IsLower b → IsLower (a ++ b)
lower_both a b p q = lower_append a b ∙ ap (λ (t : List ℕ). t ++ str_to_ascii_lowercase b) p
    ∙ ap (λ (t : List ℕ). a ++ t) q

pub lower_more : (c : ℕ) (text : List ℕ) → to_ascii_lowercase c ≡ c → IsLower text → IsLower (c ∷ text)
lower_more c text p q = ap (λ (x : ℕ). x ∷ str_to_ascii_lowercase text) p ∙ ap (λ (t : List ℕ). c ∷ t) q

-- ---- decimal numbers

digits_lower : (ds : List ℕ) → AllDigits 10 ds → IsLower ds
digits_lower [] d = refl
digits_lower (c ∷ cs) d = let range = digit_from_value c d.0
    in lower_more c cs ((lowercase_is c).1 (omega (arith, range))) (digits_lower cs d.1)

pub decimal_lower : (n : ℕ) → n < 2 ^ 64 → IsLower (decimal n)
decimal_lower n small = digits_lower (decimal n) (decimal_is_IsNumeral n small).0.1
