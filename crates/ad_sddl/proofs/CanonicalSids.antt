-- The text of an identifier encodes it in lower case too.
use Rattle.std.proofs.Common.{true, ◌≡◌, ◌⊎◌, inl, inr, ℕ, zero, suc, ◌+◌, ◌/◌, ◌^◌, ◌<◌, ◌≤◌, List, [], ◌∷◌, ◌++◌}
use Rattle.std.proofs.Common.{codes, decimal, refl, ap, ◌∙◌, arith}
use Rattle.std.specs.Char.{to_ascii_lowercase}
use Rattle.std.specs.List.{AllByRecursion}
use Rattle.std.specs.Str.{str_to_ascii_lowercase}
use Rattle.std.proofs.lemmas.Bool.{cases_lt}
use Rattle.std.proofs.lemmas.Bool.Decides.{nat_tests}
use Rattle.std.proofs.lemmas.Str.Ascii.{lowercase_is}
use Rattle.uuid.specs.Text.{is_hex_digit, value_of}
use Rattle.ad_ids.specs.SidValue.{SidValue}
use Rattle.ad_ids.specs.Sid.{IsSid}
use Rattle.ad_ids.specs.SidText.{others_text, sid_text}
use Rattle.ad_ids.specs.SidGrammar.{SpellsHex, SpellsAuthority, SpellsSidText, IsFront}
use Rattle.ad_ids.proofs.SidTextWriting.{spelled_by_text}
use Rattle.ad_sddl.proofs.CanonicalLower.{lower_append, lower_both, decimal_lower, IsLower}

-- a hexadecimal digit has its value in either case
same_digit : (c d : ℕ) → d ≡ c → is_hex_digit c ≡ true → (is_hex_digit d ≡ true) × (value_of d ≡ value_of c)
same_digit c d e is = (ap is_hex_digit e ∙ is, ap value_of e)

next_digit : (c d : ℕ) → 65 ≤ c → c < 91 → d ≡ c + 32 → is_hex_digit c ≡ true → (is_hex_digit d ≡ true)
    × (value_of d ≡ value_of c)
next_digit c d ge lt e is = rw e (grind (arith, nat_tests), grind (arith, nat_tests))

digit_lower : (c : ℕ) → is_hex_digit c ≡ true → (is_hex_digit (to_ascii_lowercase c) ≡ true)
    × (value_of (to_ascii_lowercase c) ≡ value_of c)
digit_lower c is = elim (cases_lt c 65) [
  | inl below ↦ same_digit c (to_ascii_lowercase c) ((lowercase_is c).1 below) is
  | inr above ↦ elim (cases_lt c 91) [
    | inl capital ↦ next_digit c (to_ascii_lowercase c) above capital
        ((lowercase_is c).0 (omega (arith, above, capital), omega (arith, above, capital))) is
    | inr high ↦ same_digit c (to_ascii_lowercase c) ((lowercase_is c).2 (omega (arith, high))) is
  ]
]

hex_lower : (k n : ℕ) (text : List ℕ) → SpellsHex k n text → SpellsHex k n (str_to_ascii_lowercase text)
hex_lower zero n text s = (s.0, ap str_to_ascii_lowercase s.1)
hex_lower (suc k) n text s =
    let d = digit_lower s.last s.digit in
    record {
      front = str_to_ascii_lowercase s.front;
      last = to_ascii_lowercase s.last;
      digit = d.0;
      remainder = d.1 ∙ s.remainder;
      parts = ap str_to_ascii_lowercase s.parts ∙ lower_append s.front (s.last ∷ []);
      before = hex_lower k (n / 16) s.front s.before;
    }

authority_lower : (n : ℕ) (text : List ℕ) → SpellsAuthority n text → SpellsAuthority n (str_to_ascii_lowercase text)
authority_lower n text (inl s) = inl (s.0, ap str_to_ascii_lowercase s.1 ∙ decimal_lower n (omega (arith, s.0)))
authority_lower n text (inr s) = inr (record {
  large = s.large;
  digits = str_to_ascii_lowercase s.digits;
  parts = ap str_to_ascii_lowercase s.parts;
  spelled = hex_lower 12 n s.digits s.spelled;
})

others_lower : (others : List ℕ) → AllByRecursion (λ n. n < 2 ^ 32) others → IsLower (others_text others)
others_lower [] small = refl
others_lower (n ∷ others) small = ap (λ (t : List ℕ). 45 ∷ t)
    (lower_both (decimal n) (others_text others) (decimal_lower n (omega (arith, small.0)))
    (others_lower others small.1))

letter_lower : (letter : ℕ) → (letter ≡ 83) ⊎ (letter ≡ 115) → to_ascii_lowercase letter ≡ 115
letter_lower letter (inl e) = ap to_ascii_lowercase e
letter_lower letter (inr e) = ap to_ascii_lowercase e

front_lower : (front : List ℕ) → IsFront front → IsFront (str_to_ascii_lowercase front)
front_lower front f = record {
  letter = 115;
  is_s = inr refl;
  parts = ap str_to_ascii_lowercase f.parts
      ∙ ap (λ (x : ℕ). x ∷ codes "-1-") (letter_lower f.letter f.is_s);
}

-- in lower case a text encodes what it encoded
pub sid_lower : (v : SidValue) (text : List ℕ) → SpellsSidText v text → SpellsSidText v (str_to_ascii_lowercase text)
sid_lower v text s = record {
  is_sid = s.is_sid;
  front = str_to_ascii_lowercase s.front;
  is_front = front_lower s.front s.is_front;
  authority = str_to_ascii_lowercase s.authority;
  spelled = authority_lower v.authority s.authority s.spelled;
  parts =
      ap str_to_ascii_lowercase s.parts ∙ lower_append (s.front ++ s.authority) (others_text v.sub_authorities)
      ∙ ap (λ (t : List ℕ). t ++ str_to_ascii_lowercase (others_text v.sub_authorities))
      (lower_append s.front s.authority)
      ∙ ap (λ (t : List ℕ). (str_to_ascii_lowercase s.front ++ str_to_ascii_lowercase s.authority) ++ t)
      (others_lower v.sub_authorities s.is_sid.sub_authorities);
}

pub sid_spelled : (v : SidValue) → IsSid v → SpellsSidText v (str_to_ascii_lowercase (sid_text v))
sid_spelled v is = sid_lower v (sid_text v) (spelled_by_text v is)
