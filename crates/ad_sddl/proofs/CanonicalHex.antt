-- The hexadecimal digits of a mask encode it.
use Rattle.std.proofs.Common.{Bool, eqb, true, false, ◌≡◌, inl, ℕ, zero, suc, ◌+◌, ◌*◌, ◌/◌, ◌%◌, ◌^◌, ◌<◌, ◌≤◌}
use Rattle.std.proofs.Common.{if◌then◌else◌, List, [], ◌∷◌, ◌++◌, length, codes, refl, sym, ap, ◌∙◌, arith}
use Rattle.std.specs.Char.{to_ascii_lowercase}
use Rattle.std.specs.List.{AllByRecursion}
use Rattle.std.specs.Str.{str_to_ascii_lowercase}
use Rattle.std.proofs.lemmas.Bool.{eqb-true}
use Rattle.std.proofs.lemmas.Bool.Decides.{nat_tests}
use Rattle.std.proofs.lemmas.List.{length-append}
use Rattle.uuid.specs.Text.{lower, is_hex_digit, value_of}
use Rattle.uuid.proofs.TextLemmas.{table_at}
use Rattle.ad_ids.specs.SidText.{hex_digit}
use Rattle.ad_sddl.specs.Grammar.{digits_value, SpellsHex}
use Rattle.ad_sddl.specs.Canonical.{hex_text}
use Rattle.ad_sddl.proofs.CanonicalLower.{lower_both, IsLower}

-- a digit of the value d, in lower case
record IsDigit (d c : ℕ) : Type 0 where
  hex : is_hex_digit c ≡ true
  value : value_of c ≡ d
  small : to_ascii_lowercase c ≡ c

digit_written : (d : ℕ) → d < 16 → IsDigit d (hex_digit d)
digit_written d small = rw (table_at lower d 0 (inl refl) small)
    (record { hex = grind (arith, nat_tests); value = grind (arith, nat_tests); small = grind (arith, nat_tests) })

each_more : (P : ℕ → Type 0) (digits : List ℕ) (d : ℕ) → AllByRecursion P digits → P d
    → AllByRecursion P (digits ++ d ∷ [])
each_more P [] d each p = (p, tt)
each_more P (x ∷ digits) d each p = (each.0, each_more P digits d each.1 p)

value_more : (n : ℕ) (digits : List ℕ) (d : ℕ) → digits_value n (digits ++ d ∷ []) ≡ digits_value n digits * 16
    + value_of d
value_more n [] d = refl
value_more n (x ∷ digits) d = value_more (n * 16 + value_of x) digits d

-- up to k digits of the number, and one or more where it isn't 0
record IsNumber (k n : ℕ) (text : List ℕ) : Type 0 where
  each : AllByRecursion (λ d. is_hex_digit d ≡ true) text
  few : length text ≤ k
  some : 0 < n → 1 ≤ length text
  value : digits_value 0 text ≡ n
  small : IsLower text

hex_if : (is : Bool) (k n : ℕ) (front : List ℕ) → eqb n 0 ≡ is → IsNumber k (n / 16) front
    → IsNumber (suc k) n (if is then [] else front ++ hex_digit (n % 16) ∷ [])
hex_if true k n front is f = let none : n ≡ 0 = eqb-true n 0 is
    in record {
      each = tt;
      few = omega arith;
      some = λ above. absurd (omega (arith, none, above));
      value
          = sym none;
      small = refl;
    }
hex_if false k n front is f =
    let last = hex_digit (n % 16) in
    let d : IsDigit (n % 16) last = digit_written (n % 16) (omega arith) in
    let longer : length (front ++ last ∷ []) ≡ length front + 1 = length-append front (last ∷ []) in
    record {
      each = each_more (λ d. is_hex_digit d ≡ true) front last f.each d.hex;
      few = omega (arith, longer, f.few);
      some = λ above. omega (arith, longer);
      value = value_more 0 front last ∙ rw (f.value, d.value) (omega arith);
      small = lower_both front (last ∷ []) f.small (ap (λ (x : ℕ). x ∷ []) d.small);
    }

hex_written : (k n : ℕ) → n < 16 ^ k → IsNumber k n (hex_text k n)
unfolding hex_text
hex_written zero n small = let none : n ≡ 0 = omega (arith, small)
    in record {
      each = tt;
      few = omega arith;
      some = λ above. absurd (omega (arith, none, above));
      value
          = sym none;
      small = refl;
    }
hex_written (suc k) n small = hex_if (eqb n 0) k n (hex_text k (n / 16)) refl
    (hex_written k (n / 16) (omega (arith, small)))

pub hex_spelled : (mask : ℕ) → 0 < mask → mask < 2 ^ 32
    → SpellsHex mask (str_to_ascii_lowercase (codes "0x" ++ hex_text 8 mask))
hex_spelled mask above small =
    let is : IsNumber 8 mask (hex_text 8 mask) = hex_written 8 mask (omega (arith, small)) in
    record {
      digits = hex_text 8 mask;
      each = is.each;
      at_least_one = is.some above;
      at_most_8 = is.few;
      mask_is = sym is.value;
      parts = ap (λ (t : List ℕ). codes "0x" ++ t) is.small;
    }
