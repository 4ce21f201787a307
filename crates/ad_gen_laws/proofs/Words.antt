-- Words of letters, digits and hyphens: as values of names, and as texts of lines.
use Rattle.std.proofs.Common.{◌≡◌, ◌∙◌, ℕ, zero, suc, ◌-◌, ◌^◌, ◌<◌, ◌==◌, ◌||◌, Bool, true, false, eqb, nat_lt, List}
use Rattle.std.proofs.Common.{[], ◌∷◌, ◌++◌, if◌then◌else◌, refl, ap, subst, arith}
use Rattle.std.specs.Prelude.{slice_index}
use Rattle.std.proofs.lemmas.Bool.Decides.{nat_tests}
use Rattle.std.proofs.Common.{inl, inr, decimal}
use Rattle.std.specs.List.{list_all, list_any, flat_map}
use Rattle.std.specs.Str.{IsAscii}
use Rattle.std.specs.Char.{digit_value}
use Rattle.std.specs.Str.Parse.{AllDigits}
use Rattle.std.proofs.lemmas.Bool.{and_parts, or_left, or_right, cases_Bool, eqb-true, le-leb, ltb-true}
use Rattle.std.proofs.lemmas.Str.Parse.{digit_from_value}
use Rattle.std.proofs.lemmas.Fmt.{decimal_is_IsNumeral}
use Rattle.std.proofs.lemmas.List.Folds.{list_all-append}
use Rattle.ad_dn.specs.AttributeType.{is_type_byte, is_letter, is_digit}
use Rattle.ad_dn.specs.Grammar.{Piece, plain, marked, piece_text, is_reserved}
use Rattle.ad_dn.specs.Text.{hidden_by, piece_of, piece_at, pieces_after, value_text}
use Rattle.ad_ldif.specs.Fields.{is_nul}
use Rattle.ad_gen_laws.proofs.Blocks.{is_inner}

-- a byte that isn't in a word is none of its bytes
not_that : (b c : ℕ) → is_type_byte b ≡ true → is_type_byte c ≡ false → (b == c) ≡ false
not_that b c word other = elim (cases_Bool (eqb b c)) [
  | inl is ↦ let bad : is_type_byte c ≡ true = subst (λ (x : ℕ). is_type_byte x ≡ true) (eqb-true b c is) word
      in absurd cc
  | inr differs ↦ differs
]

abbrev pub is_word : List ℕ → Bool
is_word bytes = list_all is_type_byte bytes

-- ---- digits

digit_is : (c : ℕ) → digit_value c < 10 → is_type_byte c ≡ true
digit_is c small =
    let r = digit_from_value c small in
    let digit : is_digit c ≡ true = rw (le-leb 48 c r.0, le-leb c 57 r.1) refl in
    or_left (is_letter c || is_digit c) (c == 45) (or_right (is_letter c) (is_digit c) digit)

digits_are : (ds : List ℕ) → AllDigits 10 ds → is_word ds ≡ true
digits_are [] all = refl
digits_are (c ∷ cs) all = rw (digit_is c all.0, digits_are cs all.1) refl

pub decimal_word : (n : ℕ) → n < 2 ^ 32 → is_word (decimal n) ≡ true
decimal_word n small = digits_are (decimal n) (decimal_is_IsNumeral n (omega (arith, small))).0.1

-- ---- words

pub both_words : (a b : List ℕ) → is_word a ≡ true → is_word b ≡ true → is_word (a ++ b) ≡ true
both_words a b p q = list_all-append is_type_byte a b ∙ rw (p, q) refl

word_first : (b : ℕ) (bytes : List ℕ) → is_word (b ∷ bytes) ≡ true → (is_type_byte b ≡ true) × (is_word bytes ≡ true)
word_first b bytes word = and_parts (is_type_byte b) (is_word bytes) word

pub word_inner : (bytes : List ℕ) → is_word bytes ≡ true → list_all is_inner bytes ≡ true
word_inner [] word = refl
word_inner (b ∷ bytes) word =
    let p = word_first b bytes word in
    rw (not_that b 10 p.0 refl, not_that b 13 p.0 refl, word_inner bytes p.1) refl

pub word_no_nul : (bytes : List ℕ) → is_word bytes ≡ true → list_any is_nul bytes ≡ false
word_no_nul [] word = refl
word_no_nul (b ∷ bytes) word =
    let p = word_first b bytes word in
    rw (not_that b 0 p.0 refl, word_no_nul bytes p.1) refl

-- ---- values of names

reserved_no : (b : ℕ) → is_type_byte b ≡ true → is_reserved b ≡ false
reserved_no b word =
    rw (
      not_that b 34 word refl,
      not_that b 43 word refl,
      not_that b 44 word refl,
      not_that b 59 word refl,
      not_that b
          60 word refl,
      not_that b 62 word refl,
      not_that b 92 word refl,
    ) refl

piece_plain : (b : ℕ) → is_type_byte b ≡ true → piece_of b ≡ plain b
piece_plain b word = ap (λ (t : Bool). if t then marked b else plain b) (reserved_no b word)

zero_plain : (b : ℕ) (bytes : List ℕ) → is_type_byte b ≡ true → piece_at 0 b bytes ≡ plain b
zero_plain b [] word = ap (λ (t : Bool). if t then marked b else piece_of b) (not_that b 32 word refl)
    ∙ piece_plain b word
zero_plain b (c ∷ bytes) word = piece_plain b word

-- no byte of a word is of a character that is written in digits
shown : (b x y : ℕ) → is_type_byte b ≡ true → hidden_by b x y ≡ 0
shown b x y word =
    let printed : nat_lt b 32 ≡ false = grind (arith, nat_tests) in
    rw (
      printed,
      not_that b 127 word refl,
      not_that b 194 word refl,
      not_that b 216 word refl,
      not_that b 226 word refl,
      not_that b 239 word refl,
    ) refl

abbrev written : List ℕ → List ℕ
written bytes = flat_map piece_text (pieces_after 0 bytes)

after_plain : (bytes : List ℕ) → is_word bytes ≡ true → written bytes ≡ bytes
after_plain [] word = refl
after_plain (b ∷ bytes) word =
    let p = word_first b bytes word in
    let none = shown b (slice_index bytes 0) (slice_index bytes 1) p.0 in
    ap (λ (m : ℕ). piece_text (piece_at m b bytes) ++ flat_map piece_text (pieces_after (m - 1) bytes)) none
    ∙ ap (λ (q : Piece). piece_text q ++ written bytes) (zero_plain b bytes p.0)
    ∙ ap (λ (l : List ℕ). b ∷ l) (after_plain bytes p.1)

-- a word is written as it is
pub word_text : (bytes : List ℕ) → is_word bytes ≡ true → value_text bytes ≡ bytes
unfolding value_text
word_text [] word = refl
word_text (b ∷ bytes) word =
    let p = word_first b bytes word in
    let blank = not_that b 32 p.0 refl in
    let hash = not_that b 35 p.0 refl in
    ap (λ (t : Bool). flat_map piece_text (if t || (b == 35) then marked b ∷ pieces_after 0 bytes
    else pieces_after 0 (b ∷ bytes))) blank
    ∙ ap (λ (t : Bool). flat_map piece_text (if t then marked b ∷ pieces_after 0 bytes else pieces_after 0 (b ∷ bytes)))
    hash ∙ after_plain (b ∷ bytes) word

small : (b : ℕ) → is_type_byte b ≡ true → b < 128
small b word = elim (cases_Bool (nat_lt b 128)) [
  | inl is ↦ ltb-true b 128 is
  | inr large ↦ grind (arith, large, word)
]

pub word_ascii : (bytes : List ℕ) → is_word bytes ≡ true → IsAscii bytes
word_ascii [] word i = omega arith
word_ascii (b ∷ bytes) word zero = small b (word_first b bytes word).0
word_ascii (b ∷ bytes) word (suc i) = word_ascii bytes (word_first b bytes word).1 i
