-- What `normal_of` gives is what `IsNormal` says.
use Rattle.std.proofs.Common.{◌≡◌, ◌↔◌, ◌⊎◌, inl, inr, ℕ, zero, suc, ◌<◌, ◌≤◌, ◌^◌, ℤ, pos, negsuc, neg_ℤ, Bool, true}
use Rattle.std.proofs.Common.{false, eqb, nat_lt, Option, Some, None, Result, Ok, Err, List, [], ◌∷◌, ◌++◌, length}
use Rattle.std.proofs.Common.{get_or, refl, sym, ap, subst, ◌∙◌, arith, FitsSigned, codes}
use Rattle.std.specs.Prelude.{◌&&◌, if◌then◌else◌, option_map}
use Rattle.std.specs.Option.{option_or, ok_or}
use Rattle.std.specs.List.{list_all}
use Rattle.std.specs.Int.{Width, w32, w64}
use Rattle.std.specs.Str.{IsAscii, is_utf8, bytes_eq, str_to_ascii_lowercase}
use Rattle.std.specs.Str.Parse.{AllDigits, digits_value, signed_digits_value}
use Rattle.std.specs.Fmt.{decimal, signed_decimal}
use Rattle.std.proofs.lemmas.List.{append-nil, nil_from_length}
use Rattle.std.proofs.lemmas.Bool.{true≢false, and_parts, and_from, eqb-true, ne_eqb}
use Rattle.std.proofs.lemmas.Bool.Decides.{nat_tests}
use Rattle.std.proofs.lemmas.Slice.Eq.{bytes_eq-Decides}
use Rattle.std.proofs.lemmas.Str.{IsUtf8-from_is_utf8, is_utf8-from_IsUtf8}
use Rattle.std.proofs.lemmas.Fmt.{decimal_is_IsNumeral}
use Rattle.std.proofs.lemmas.Str.Parse.{IsNumeralModel, numerals_by_value, tells_digits, not_in_digits}
use Rattle.ad_bytes.specs.Reading.{Reading, IsBytes, GivesUnless}
use Rattle.ad_ids.specs.declared.sid.SidFault.{SidFault}
use Rattle.ad_ids.specs.SidValue.{SidValue}
use Rattle.ad_ids.specs.Sid.{SpellsSid, sid_bytes}
use Rattle.ad_ids.specs.SidGrammar.{SpellsSidText}
use Rattle.ad_ids.specs.SidReading.{sid_at}
use Rattle.ad_ids.specs.SidFront.{sid_of_text}
use Rattle.ad_dn.specs.Fold.{folded}
use Rattle.ad_dn.specs.NameKey.{name_key}
use Rattle.ad_dn.specs.Reading.{dn_of}
use Rattle.ad_value.specs.declared.syntax.Syntax.{Syntax}
use Rattle.ad_value.specs.declared.syntax.Syntax.TheVariants as syntax
use Rattle.ad_value.specs.declared.value.Key.TheVariants as key
use Rattle.ad_value.specs.Value.{Value, value, as_shown}
use Rattle.ad_value.specs.Normal.{IsNameText, IsAsciiText, IsWord, IsNumber, IsText, IsSpelled, IsIdentifier, IsNormal}
use Rattle.ad_value.specs.ValueOf.{fits, number_of, number_value, is_ascii, ascii_value, is_word, boolean_value}
use Rattle.ad_value.specs.ValueOf.{text_value, whole_sid, sid_of, sid_value, name_value, normal_of, normal_or_fault}
use Rattle.ad_value.specs.ValueOf.{is_memory}
use Rattle.ad_value.specs.Reading.{Reads}
use Rattle.ad_value.specs.declared.fault.ValueFault.{ValueFault}
use Rattle.ad_value.specs.declared.fault.ValueFault.TheVariants as fault
use Rattle.ad_value.proofs.FormLaws.{bytes_no_text}
use Rattle.ad_value.proofs.Lower.{Promised}

some_same : {A : Type 0} (a b : A) → Some a ≡ Some b → a ≡ b
some_same a b e = cc

if_some : {A : Type 0} (t : Bool) (x u : A) → (if t then Some x else None) ≡ Some u → (t ≡ true) × (x ≡ u)
if_some true x u e = (refl, some_same x u e)
if_some false x u e = absurd cc

map_some : {A B : Type 0} (f : A → B) (o : Option A) (y : B) → option_map f o ≡ Some y → (x : A)
    × ((o ≡ Some x) × (f x ≡ y))
map_some f None y e = absurd cc
map_some f (Some x) y e = (x, (refl, some_same (f x) y e))

-- the same value, and a value of no other form
abbrev AreSame : Option Value → (Value → Type 0) → Type 0
AreSame o Form = (v : Value) → (o ≡ Some v) ↔ Form v

-- ---- numbers

own : IsNumeralModel (AllDigits 10) (digits_value 10)
own = numerals_by_value (AllDigits 10) tells_digits

-- the sign and the digits that are written for a number say it
signed_read : (n : ℤ) → FitsSigned w64 n → signed_digits_value 10 (signed_decimal n) ≡ n
signed_read (pos n) h =
    let small : n < 2 ^ 64 = omega (arith, h.sfits) in
    let digits = decimal_is_IsNumeral n small in
    let minus : eqb (get_or (decimal n) 0 0) 45 ≡ false = ne_eqb (get_or (decimal n) 0 0) 45
    (not_in_digits own (decimal n) 45 digits.0.1 (λ r. absurd (omega (arith, r.0))) 0 digits.0.0) in
    let plus : eqb (get_or (decimal n) 0 0) 43 ≡ false = ne_eqb (get_or (decimal n) 0 0) 43
    (not_in_digits own (decimal n) 43 digits.0.1 (λ r. absurd (omega (arith, r.0))) 0 digits.0.0) in
    rw (minus, plus) (ap pos digits.1)
signed_read (negsuc n) h =
    let small : suc n < 2 ^ 64 = omega (arith, h.sfits) in
    ap (λ m. neg_ℤ (pos m)) (decimal_is_IsNumeral (suc n) small).1

fits_32 : (n : ℤ) → fits 31 n ≡ true → FitsSigned w32 n
fits_32 (pos n) e = record { sfits = grind (arith, nat_tests, e) }
fits_32 (negsuc n) e = record { sfits = grind (arith, nat_tests, e) }

fits_32_back : (n : ℤ) → FitsSigned w32 n → fits 31 n ≡ true
fits_32_back (pos n) h = let small : n < 2 ^ 31 = h.sfits in grind (arith, nat_tests)
fits_32_back (negsuc n) h = let small : n < 2 ^ 31 = h.sfits in grind (arith, nat_tests)

fits_64 : (n : ℤ) → fits 63 n ≡ true → FitsSigned w64 n
fits_64 (pos n) e = record { sfits = grind (arith, nat_tests, e) }
fits_64 (negsuc n) e = record { sfits = grind (arith, nat_tests, e) }

fits_64_back : (n : ℤ) → FitsSigned w64 n → fits 63 n ≡ true
fits_64_back (pos n) h = let small : n < 2 ^ 63 = h.sfits in grind (arith, nat_tests)
fits_64_back (negsuc n) h = let small : n < 2 ^ 63 = h.sfits in grind (arith, nat_tests)

wider : (n : ℤ) → FitsSigned w32 n → FitsSigned w64 n
wider n h = record { sfits = omega (arith, h.sfits) }

number_takes : (digits : ℕ) (bytes : List ℕ) (n : ℤ) → number_of digits bytes ≡ Some n → (fits digits n ≡ true)
    × (bytes ≡ signed_decimal n)
unfolding number_of
number_takes digits bytes n e =
    let said = signed_digits_value 10 bytes in
    let found = if_some (fits digits said && bytes_eq bytes (signed_decimal said)) said n e in
    let parts = and_parts (fits digits said) (bytes_eq bytes (signed_decimal said)) found.0 in (
      subst (λ (z : ℤ). fits digits z ≡ true) found.1 parts.0,
      (bytes_eq-Decides bytes (signed_decimal said)).0 parts.1
          ∙ ap signed_decimal found.1,
    )

number_again : (digits : ℕ) (bytes : List ℕ) (n : ℤ) → FitsSigned w64 n → fits digits n ≡ true → bytes
    ≡ signed_decimal n → number_of digits bytes ≡ Some n
unfolding number_of
number_again digits bytes n wide small spelled =
    let said : signed_digits_value 10 bytes ≡ n = ap (signed_digits_value 10) spelled ∙ signed_read n wide in
    let same : bytes_eq bytes (signed_decimal n) ≡ true = (bytes_eq-Decides bytes (signed_decimal n)).1 spelled in
    rw (said, small, same) refl

number_same : (digits : ℕ) (w : Width) → ((n : ℤ) → fits digits n ≡ true → FitsSigned w n)
    → ((n : ℤ) → FitsSigned w n → fits digits n ≡ true) → ((n : ℤ) → FitsSigned w n → FitsSigned w64 n)
    → (bytes : List ℕ) → AreSame (number_value digits bytes) (IsNumber w bytes)
number_same digits w to from wide bytes v = (
  λ e. let found = map_some (λ n. value bytes (key.Number n)) (number_of digits bytes) v e in
      let taken = number_takes digits bytes found.0 found.1.0 in
      record { number = found.0; fits = to found.0 taken.0; spelled = taken.1; is = sym found.1.1 },
  λ i. ap (option_map (λ n. value bytes (key.Number n)))
      (number_again digits bytes i.number (wide i.number i.fits) (from i.number i.fits) i.spelled)
      ∙ ap (λ (u : Value). Some u) (sym i.is),
)

none_from : (o : Option ℤ) → ((n : ℤ) → o ≡ Some n → ⊥) → o ≡ None
none_from None never = refl
none_from (Some n) never = absurd (never n refl)

-- bytes that are written for no number are none
pub number_none : (bytes : List ℕ) → ((n : ℤ) → FitsSigned w64 n → bytes ≡ signed_decimal n → ⊥) → number_of 63 bytes
    ≡ None
number_none bytes never = none_from (number_of 63 bytes) (λ n e. let taken = number_takes 63 bytes n e
    in never n (fits_64 n taken.0) taken.1)

-- and others are the number that they are written for
pub number_some : (bytes : List ℕ) (n : ℤ) → FitsSigned w64 n → bytes ≡ signed_decimal n → number_of 63 bytes ≡ Some n
number_some bytes n wide spelled = number_again 63 bytes n wide (fits_64_back n wide) spelled

-- ---- texts

all_ascii : (bytes : List ℕ) → list_all is_ascii bytes ≡ true → IsAscii bytes
all_ascii [] e i = omega arith
all_ascii (b ∷ bytes) e zero = let first : nat_lt b 128 ≡ true
    = (and_parts (is_ascii b) (list_all is_ascii bytes) e).0 in grind (arith, nat_tests)
all_ascii (b ∷ bytes) e (suc i) = all_ascii bytes (and_parts (is_ascii b) (list_all is_ascii bytes) e).1 i

ascii_all : (bytes : List ℕ) → IsAscii bytes → list_all is_ascii bytes ≡ true
ascii_all [] h = refl
ascii_all (b ∷ bytes) h =
    let small : b < 128 = h 0 in
    let first : is_ascii b ≡ true = grind (arith, nat_tests) in
    and_from (is_ascii b) (list_all is_ascii bytes) first (ascii_all bytes (λ i. h (suc i)))

ascii_same : (bytes : List ℕ) → AreSame (ascii_value bytes) (IsAsciiText bytes)
ascii_same bytes v = (
  λ e. let found = if_some (list_all is_ascii bytes) (value bytes (key.Bytes (str_to_ascii_lowercase bytes))) v e
      in record { ascii = all_ascii bytes found.0; is = sym found.1 },
  λ i. let all : list_all is_ascii bytes ≡ true = ascii_all bytes i.ascii
      in rw all (ap (λ (u : Value). Some u) (sym i.is)),
)

text_same : (bytes : List ℕ) → AreSame (text_value bytes) (IsText bytes)
text_same bytes v = (
  λ e. let found = if_some (is_utf8 bytes) (value bytes (key.Bytes (folded bytes))) v e
      in record { utf8 = IsUtf8-from_is_utf8 bytes found.0; is = sym found.1 },
  λ i. let utf8 : is_utf8 bytes ≡ true = is_utf8-from_IsUtf8 bytes i.utf8
      in rw utf8 (ap (λ (u : Value). Some u) (sym i.is)),
)

-- a word is one of two
word_by : (t f : Bool) (one two v : Value) → (if t then Some one else (if f then Some two else None)) ≡ Some v
    → ((t ≡ true) × (v ≡ one)) ⊎ ((f ≡ true) × (v ≡ two))
word_by true f one two v e = inl (refl, sym (some_same one v e))
word_by false true one two v e = inr (refl, sym (some_same two v e))
word_by false false one two v e = absurd cc

pub no_both : (bytes : List ℕ) → str_to_ascii_lowercase bytes ≡ str_to_ascii_lowercase (codes "TRUE")
    → str_to_ascii_lowercase bytes ≡ str_to_ascii_lowercase (codes "FALSE") → ⊥
no_both bytes t f = let e : str_to_ascii_lowercase (codes "TRUE") ≡ str_to_ascii_lowercase (codes "FALSE") = sym t ∙ f
    in absurd (omega (arith, ap length e))

word_true : (t f : Bool) (one two v : Value) → t ≡ true → v ≡ one
    → (if t then Some one else (if f then Some two else None)) ≡ Some v
word_true true f one two v t is = ap (λ (u : Value). Some u) (sym is)
word_true false f one two v t is = absurd cc

word_false : (t f : Bool) (one two v : Value) → (t ≡ true → ⊥) → f ≡ true → v ≡ two
    → (if t then Some one else (if f then Some two else None)) ≡ Some v
word_false true f one two v n e is = absurd (n refl)
word_false false true one two v n e is = ap (λ (u : Value). Some u) (sym is)
word_false false false one two v n e is = absurd cc

same_word : (word bytes : List ℕ) → is_word word bytes ≡ true → str_to_ascii_lowercase bytes
    ≡ str_to_ascii_lowercase word
same_word word bytes e = (bytes_eq-Decides (str_to_ascii_lowercase bytes) (str_to_ascii_lowercase word)).0 e

word_same : (word bytes : List ℕ) → str_to_ascii_lowercase bytes ≡ str_to_ascii_lowercase word → is_word word bytes
    ≡ true
word_same word bytes e = (bytes_eq-Decides (str_to_ascii_lowercase bytes) (str_to_ascii_lowercase word)).1 e

boolean_takes : (bytes : List ℕ) (v : Value) → boolean_value bytes ≡ Some v → IsWord (codes "TRUE") bytes v
    ⊎ IsWord (codes "FALSE") bytes v
boolean_takes bytes v e = elim (word_by (is_word (codes "TRUE") bytes) (is_word (codes "FALSE") bytes)
    (as_shown (codes "TRUE")) (as_shown (codes "FALSE")) v e) [
      | inl t ↦ inl (record { spelled = same_word (codes "TRUE") bytes t.0; is = t.1 })
      | inr f ↦ inr (record { spelled = same_word (codes "FALSE") bytes f.0; is = f.1 })
    ]

pub boolean_again : (bytes : List ℕ) (v : Value) → IsWord (codes "TRUE") bytes v ⊎ IsWord (codes "FALSE") bytes v
    → boolean_value bytes ≡ Some v
boolean_again bytes v (inl h) = word_true (is_word (codes "TRUE") bytes) (is_word (codes "FALSE") bytes)
    (as_shown (codes "TRUE")) (as_shown (codes "FALSE")) v (word_same (codes "TRUE") bytes h.spelled) h.is
boolean_again bytes v (inr h) = word_false (is_word (codes "TRUE") bytes) (is_word (codes "FALSE") bytes)
    (as_shown (codes "TRUE")) (as_shown (codes "FALSE")) v
    (λ t. no_both bytes (same_word (codes "TRUE") bytes t) h.spelled) (word_same (codes "FALSE") bytes h.spelled) h.is

boolean_same : (bytes : List ℕ) → AreSame (boolean_value bytes)
    (λ v. IsWord (codes "TRUE") bytes v ⊎ IsWord (codes "FALSE") bytes v)
boolean_same bytes v = (boolean_takes bytes v, boolean_again bytes v)

-- ---- identifiers

whole_takes : Promised → (bytes : List ℕ) (r : Reading SidValue SidFault) (s : SidValue) → IsBytes bytes
    → sid_at bytes ≡ r → whole_sid r ≡ Some s → SpellsSid s bytes
whole_takes w bytes (Err f) s b e o = absurd cc
whole_takes w bytes (Ok found) s b e o =
    let parts = if_some (eqb (length found.1) 0) found.0 s o in
    let nothing : found.1 ≡ [] = nil_from_length found.1 (eqb-true (length found.1) 0 parts.0) in
    let taken = w.sid_read.takes bytes found.0 found.1 b e in
    let all : bytes ≡ taken.text = taken.parts ∙ ap (λ r. taken.text ++ r) nothing ∙ append-nil taken.text in
    subst (λ (t : List ℕ). SpellsSid s t) (sym all)
    (subst (λ (x : SidValue). SpellsSid x taken.text) parts.1 taken.spelled)

whole_again : Promised → (bytes : List ℕ) (s : SidValue) → SpellsSid s bytes → whole_sid (sid_at bytes) ≡ Some s
whole_again w bytes s spelled = ap whole_sid (ap sid_at (sym (append-nil bytes)) ∙ w.sid_read.again s bytes [] spelled)

or_some : {A : Type 0} (o p : Option A) (x : A) → option_or o p ≡ Some x → (o ≡ Some x) ⊎ (p ≡ Some x)
or_some None p x e = inr e
or_some (Some y) p x e = inl e

or_none : {A : Type 0} (o p : Option A) (x : A) → ((y : A) → o ≡ Some y → ⊥) → p ≡ Some x → option_or o p ≡ Some x
or_none None p x n e = e
or_none (Some y) p x n e = absurd (n y refl)

sid_takes : Promised → (bytes : List ℕ) (s : SidValue) → IsBytes bytes → sid_of bytes ≡ Some s → IsSpelled s bytes
unfolding sid_of
sid_takes w bytes s b e = elim (or_some (whole_sid (sid_at bytes)) (sid_of_text bytes) s e) [
  | inl o ↦ inl (whole_takes w bytes (sid_at bytes) s b refl o)
  | inr t ↦ inr ((w.sid_texts s bytes).0 t)
]

-- an identifier's bytes, whatever their values
pub sid_bytes_again : Promised → (bytes : List ℕ) (s : SidValue) → SpellsSid s bytes → sid_of bytes ≡ Some s
unfolding sid_of
sid_bytes_again w bytes s spelled =
    let whole : whole_sid (sid_at bytes) ≡ Some s = whole_again w bytes s spelled in
    ap (λ (o : Option SidValue). option_or o (sid_of_text bytes)) whole

sid_text_again : Promised → (bytes : List ℕ) (s : SidValue) → IsBytes bytes → SpellsSidText s bytes → sid_of bytes
    ≡ Some s
unfolding sid_of
sid_text_again w bytes s b spelled =
    or_none (whole_sid (sid_at bytes)) (sid_of_text bytes) s
    (λ y o. bytes_no_text y s bytes (whole_takes w bytes (sid_at bytes) y b refl o) spelled)
    ((w.sid_texts s bytes).1 spelled)

sid_again : Promised → (bytes : List ℕ) (s : SidValue) → IsBytes bytes → IsSpelled s bytes → sid_of bytes ≡ Some s
sid_again w bytes s b (inl spelled) = sid_bytes_again w bytes s spelled
sid_again w bytes s b (inr spelled) = sid_text_again w bytes s b spelled

sid_same : Promised → (bytes : List ℕ) → IsBytes bytes → AreSame (sid_value bytes) (IsIdentifier bytes)
sid_same w bytes b v = (
  λ e. let found = map_some (λ s. as_shown (sid_bytes s)) (sid_of bytes) v e
      in record { sid = found.0; spelled = sid_takes w bytes found.0 b found.1.0; is = sym found.1.1 },
  λ i. ap (option_map (λ s. as_shown (sid_bytes s))) (sid_again w bytes i.sid b i.spelled)
      ∙ ap (λ (u : Value). Some u) (sym i.is),
)

-- ---- names

name_same : Promised → (bytes : List ℕ) → AreSame (name_value bytes) (IsNameText bytes)
name_same w bytes v = (
  λ e.
      let found = map_some (λ dn. value bytes (key.Bytes (name_key dn))) (dn_of bytes) v e in
      record { dn = found.0; spelled = (w.names found.0 bytes).0 found.1.0; is = sym found.1.1 },
  λ i.
      ap (option_map (λ dn. value bytes (key.Bytes (name_key dn)))) ((w.names i.dn bytes).1 i.spelled)
      ∙ ap (λ (u : Value). Some u) (sym i.is),
)

-- ---- all

shown_same : (bytes : List ℕ) → AreSame (Some (as_shown bytes)) (λ v. v ≡ as_shown bytes)
shown_same bytes v = (λ e. sym (some_same (as_shown bytes) v e), λ e. ap (λ (u : Value). Some u) (sym e))

pub normal_same : Promised → (s : Syntax) (bytes : List ℕ) → IsBytes bytes → AreSame (normal_of s bytes)
    (IsNormal s bytes)
unfolding normal_of
normal_same w syntax.Name bytes b = name_same w bytes
normal_same w syntax.Ascii bytes b = ascii_same bytes
normal_same w syntax.Boolean bytes b = boolean_same bytes
normal_same w syntax.Integer bytes b = number_same 31 w32 fits_32 fits_32_back wider bytes
normal_same w syntax.Large bytes b = number_same 63 w64 fits_64 fits_64_back (λ n h. h) bytes
normal_same w syntax.Octets bytes b = shown_same bytes
normal_same w syntax.Unicode bytes b = text_same bytes
normal_same w syntax.Sid bytes b = sid_same w bytes b
normal_same w syntax.Other bytes b = shown_same bytes

none_of : {A : Type 0} (o : Option A) → ((x : A) → o ≡ Some x → ⊥) → o ≡ None
none_of None n = refl
none_of (Some x) n = absurd (n x refl)

-- a reader of the form of bytes that aren't too many gives what the function does
pub given : Promised → (s : Syntax) (bytes : List ℕ) → IsBytes bytes → length bytes ≤ 1048576
    → (r : Result Value ValueFault) → Reads (IsNormal s bytes) r → GivesUnless is_memory (λ v. v) r
    (normal_or_fault s bytes)
given w s bytes b le r h = by r h where
  short : nat_lt 1048576 (length bytes) ≡ false
  short = grind (arith, nat_tests)

  by : (r : Result Value ValueFault) → Reads (IsNormal s bytes) r → GivesUnless is_memory (λ v. v) r
      (normal_or_fault s bytes)
  by (Ok v) h = rw short (ap (λ (o : Option Value). ok_or o fault.Syntax) ((normal_same w s bytes b v).1 h.0))
  by (Err fault.Syntax) h = λ e. rw short
      (ap (λ (o : Option Value). ok_or o fault.Syntax)
      (none_of (normal_of s bytes) (λ v f. h v ((normal_same w s bytes b v).0 f))))
  by (Err fault.TooLong) h = absurd h
  by (Err fault.Memory) h = λ e. absurd (true≢false e)
