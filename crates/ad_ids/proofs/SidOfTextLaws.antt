-- The function that reads an identifier's text part by part reads what the grammar encodes, and nothing else.
use Rattle.std.proofs.Common.{Bool, eqb, nat_le, nat_lt, ◌≡◌, ◌⊎◌, inl, inr, ℕ, zero, suc, ◌+◌, ◌*◌, ◌/◌, ◌^◌, ◌<◌}
use Rattle.std.proofs.Common.{◌≤◌, true, false, cond, if◌then◌else◌, Option, Some, None, List, [], ◌∷◌, ◌++◌, length}
use Rattle.std.proofs.Common.{map, take, drop, refl, sym, ap, subst, ◌∙◌, append_assoc, arith, codes, decimal}
use Rattle.std.specs.Prelude.{◌&&◌, option_map, option_and_then}
use Rattle.std.specs.List.{list_all, onto_first, AllByRecursion}
use Rattle.std.specs.Str.{bytes_eq}
use Rattle.std.specs.Str.Parse.{digits_value, AllDigits}
use Rattle.std.specs.Char.{digit_value}
use Rattle.std.proofs.lemmas.Bool.{cases_Bool, eqb-true, ltb-true, lt-ltb, leb-true, le-leb, and_parts, or_cases}
use Rattle.std.proofs.lemmas.Bool.Decides.{nat_tests}
use Rattle.std.proofs.lemmas.Option.{same_Some}
use Rattle.std.proofs.lemmas.List.{append-nil, length-append, take-append-drop}
use Rattle.std.proofs.lemmas.Slice.Eq.{bytes_eq-Decides}
use Rattle.std.proofs.lemmas.Fmt.{decimal_is_IsNumeral}
use Rattle.uuid.specs.Text.{is_hex_digit, value_of}
use Rattle.ad_ids.specs.SidValue.{SidValue}
use Rattle.ad_ids.specs.Sid.{IsSid}
use Rattle.ad_ids.specs.SidText.{others_text}
use Rattle.ad_ids.specs.SidGrammar.{SpellsHex, SpellsAuthority, SpellsSidText, IsFront}
use Rattle.ad_ids.specs.SidOfText.{checked, number_if, number_of, hex_number, large_if, large_of, authority_of}
use Rattle.ad_ids.specs.SidOfText.{numbers_of, with_numbers, sid_of_parts, begins_sid, parts_between, sid_of_text}
use Rattle.ad_ids.proofs.SidTextSteps.{hex_small, hex_longer}

checked_is : {A : Type 0} (t : Bool) (x y : A) → checked t x ≡ Some y → (t ≡ true) × (x ≡ y)
checked_is true x y e = (refl, same_Some x y e)
checked_is false x y e = absurd cc

passes : {A : Type 0} (t : Bool) (x : A) → t ≡ true → checked t x ≡ Some x
passes t x e = ap (λ (b : Bool). checked b x) e

both : (a b : Bool) → a ≡ true → b ≡ true → (a && b) ≡ true
both a b p q = ap (λ (c : Bool). c && b) p ∙ q

from_then : {A B : Type 0} (f : A → Option B) (o : Option A) (y : B) → option_and_then f o ≡ Some y → (x : A)
    × (o ≡ Some x) × (f x ≡ Some y)
from_then f None y e = absurd cc
from_then f (Some x) y e = (x, refl, e)

from_map : {A B : Type 0} (f : A → B) (o : Option A) (y : B) → option_map f o ≡ Some y → (x : A) × (o ≡ Some x)
    × (f x ≡ y)
from_map f None y e = absurd cc
from_map f (Some x) y e = (x, refl, same_Some (f x) y e)

same_bytes : (a b : List ℕ) → bytes_eq a b ≡ true → a ≡ b
same_bytes a b e = (bytes_eq-Decides a b).0 e

equal_bytes : (a b : List ℕ) → a ≡ b → bytes_eq a b ≡ true
equal_bytes a b e = (bytes_eq-Decides a b).1 e

-- ---- numbers in decimal

number_told : (text : List ℕ) (n : ℕ) → number_of text ≡ Some n → (n < 2 ^ 32) × (text ≡ decimal n)
unfolding number_of
number_told text n e =
    let v = digits_value 10 text in
    let c = checked_is (bytes_eq text (decimal v) && nat_lt v (2 ^ 32)) v n e in
    let t = and_parts (bytes_eq text (decimal v)) (nat_lt v (2 ^ 32)) c.0 in
    let small : v < 2 ^ 32 = ltb-true v (2 ^ 32) t.1 in
    let spelled : text ≡ decimal v = same_bytes text (decimal v) t.0 in
    subst (λ (m : ℕ). (m < 2 ^ 32) × (text ≡ decimal m)) c.1 (small, spelled)

number_if_read : (text : List ℕ) (n : ℕ) → text ≡ decimal n → n < 2 ^ 32 → number_if text n ≡ Some n
number_if_read text n e small = passes (bytes_eq text (decimal n) && nat_lt n (2 ^ 32)) n
    (both (bytes_eq text (decimal n)) (nat_lt n (2 ^ 32)) (equal_bytes text (decimal n) e) (lt-ltb n (2 ^ 32) small))

number_read : (n : ℕ) → n < 2 ^ 32 → number_of (decimal n) ≡ Some n
unfolding number_of
number_read n small =
    let value : digits_value 10 (decimal n) ≡ n = (decimal_is_IsNumeral n (omega (arith, small))).1 in
    ap (number_if (decimal n)) value ∙ number_if_read (decimal n) n refl small

-- ---- numbers in hexadecimal

hex_number-append : (m : ℕ) (xs ys : List ℕ) → hex_number m (xs ++ ys) ≡ hex_number (hex_number m xs) ys
hex_number-append m [] ys = refl
hex_number-append m (x ∷ xs) ys = hex_number-append (m * 16 + value_of x) xs ys

all-append : (xs ys : List ℕ) → list_all is_hex_digit xs ≡ true → list_all is_hex_digit ys ≡ true
    → list_all is_hex_digit (xs ++ ys) ≡ true
all-append [] ys p q = q
all-append (x ∷ xs) ys p q =
    let t = and_parts (is_hex_digit x) (list_all is_hex_digit xs) p in
    both (is_hex_digit x) (list_all is_hex_digit (xs ++ ys)) t.0 (all-append xs ys t.1 q)

hex_forward : (rest front : List ℕ) (k n : ℕ) → SpellsHex k n front → list_all is_hex_digit rest ≡ true
    → SpellsHex (k + length rest) (hex_number n rest) (front ++ rest)
hex_forward [] front k n s all =
    let none : k ≡ k + 0 = omega arith in
    subst (λ (i : ℕ). SpellsHex i n (front ++ [])) none
    (subst (λ (t : List ℕ). SpellsHex k n t) (sym (append-nil front)) s)
hex_forward (b ∷ rest) front k n s all =
    let t = and_parts (is_hex_digit b) (list_all is_hex_digit rest) all in
    let longer = hex_longer k n b front s t.0 in
    let more = hex_forward rest (front ++ b ∷ []) (k + 1) (n * 16 + value_of b) longer t.1 in
    let count : k + 1 + length rest ≡ k + length (b ∷ rest) = omega arith in
    subst (λ (i : ℕ). SpellsHex i (hex_number n (b ∷ rest)) (front ++ b ∷ rest)) count
    (subst (λ (x : List ℕ). SpellsHex (k + 1 + length rest) (hex_number n (b ∷ rest)) x)
    (append_assoc front (b ∷ []) rest) more)

-- what digits in the grammar say
record HexSays (k n : ℕ) (ds : List ℕ) : Type 0 where
  count : length ds ≡ k
  all : list_all is_hex_digit ds ≡ true
  value : hex_number 0 ds ≡ n

hex_back : (k n : ℕ) (ds : List ℕ) → SpellsHex k n ds → HexSays k n ds
hex_back zero n ds s = record {
  count = ap length s.1;
  all = ap (list_all is_hex_digit) s.1;
  value
      = ap (hex_number 0) s.1 ∙ sym s.0;
}
hex_back (suc k) n ds s =
    let h = hex_back k (n / 16) s.front s.before in
    let one : list_all is_hex_digit (s.last ∷ []) ≡ true = both (is_hex_digit s.last) true s.digit refl in
    record {
      count = omega (arith, ap length s.parts, length-append s.front (s.last ∷ []), h.count);
      all = ap (list_all is_hex_digit) s.parts ∙ all-append s.front (s.last ∷ []) h.all one;
      value = ap (hex_number 0) s.parts ∙ hex_number-append 0 s.front (s.last ∷ [])
          ∙ ap (λ (m : ℕ). m * 16 + value_of s.last) h.value ∙ omega (arith, s.remainder);
    }

-- the number of 12 digits
record LargeSays (n : ℕ) (digits : List ℕ) : Type 0 where
  large : 2 ^ 32 ≤ n
  spelled : SpellsHex 12 n digits

large_told : (digits : List ℕ) (n : ℕ) → large_of digits ≡ Some n → LargeSays n digits
unfolding large_of
large_told digits n e =
    let v = hex_number 0 digits in
    let c = checked_is ((eqb (length digits) 12 && list_all is_hex_digit digits) && nat_le (2 ^ 32) v) v n e in
    let outer = and_parts (eqb (length digits) 12 && list_all is_hex_digit digits) (nat_le (2 ^ 32) v) c.0 in
    let inner = and_parts (eqb (length digits) 12) (list_all is_hex_digit digits) outer.0 in
    let twelve : length digits ≡ 12 = eqb-true (length digits) 12 inner.0 in
    let all : SpellsHex (0 + length digits) v ([] ++ digits) = hex_forward digits [] 0 0 (refl, refl) inner.1 in
    let count : 0 + length digits ≡ 12 = omega (arith, twelve) in
    subst (λ (m : ℕ). LargeSays m digits) c.1
    (record { large = leb-true (2 ^ 32) v outer.1; spelled = subst (λ (i : ℕ). SpellsHex i v digits) count all })

large_read : (digits : List ℕ) (n : ℕ) → 2 ^ 32 ≤ n → SpellsHex 12 n digits → large_of digits ≡ Some n
unfolding large_of
large_read digits n large s =
    let h = hex_back 12 n digits s in
    let count : eqb (length digits) 12 ≡ true = grind (arith, nat_tests, h.count) in
    let two : (eqb (length digits) 12 && list_all is_hex_digit digits) ≡ true = both (eqb (length digits) 12)
    (list_all is_hex_digit digits) count h.all in
    ap (large_if digits) h.value ∙ passes ((eqb (length digits) 12 && list_all is_hex_digit digits)
    && nat_le (2 ^ 32) n) n (both (eqb (length digits) 12 && list_all is_hex_digit digits) (nat_le (2 ^ 32) n) two
    (le-leb (2 ^ 32) n large))

-- ---- the authority

record AuthoritySays (n : ℕ) (text : List ℕ) : Type 0 where
  spelled : SpellsAuthority n text
  small : n < 2 ^ 48

authority_by : (text : List ℕ) (n : ℕ) (t : Bool) → bytes_eq (take 2 text) (codes "0x") ≡ t
    → (if t then large_of (drop 2 text) else number_of text) ≡ Some n → AuthoritySays n text
authority_by text n true is e =
    let l = large_told (drop 2 text) n e in
    let parts : text ≡ codes "0x" ++ drop 2 text = sym (take-append-drop 2 text)
    ∙ ap (λ (x : List ℕ). x ++ drop 2 text) (same_bytes (take 2 text) (codes "0x") is) in
    record {
      spelled = inr (record { large = l.large; digits = drop 2 text; parts = parts; spelled = l.spelled });
      small = hex_small 12 n (drop 2 text) l.spelled;
    }
authority_by text n false is e =
    let d = number_told text n e in
    record { spelled = inl d; small = omega (arith, d.0) }

authority_told : (text : List ℕ) (n : ℕ) → authority_of text ≡ Some n → AuthoritySays n text
authority_told text n e = authority_by text n (bytes_eq (take 2 text) (codes "0x")) refl e

no_digit_x : (text : List ℕ) → AllDigits 10 text → take 2 text ≡ codes "0x" → ⊥
no_digit_x [] all e = absurd cc
no_digit_x (a ∷ []) all e = absurd (omega (arith, ap length e))
no_digit_x (a ∷ b ∷ text) all e =
    let x : b ≡ 120 = ap (λ (t : List ℕ). second t) e in
    absurd (omega (arith, subst (λ (c : ℕ). digit_value c < 10) x all.1.0))
  where
    second : List ℕ → ℕ
    second [] = 0
    second (a ∷ []) = 0
    second (a ∷ b ∷ t) = b

authority_read : (n : ℕ) (text : List ℕ) → SpellsAuthority n text → authority_of text ≡ Some n
authority_read n text (inl s) = by_test (bytes_eq (take 2 text) (codes "0x")) refl
  where
    digits : AllDigits 10 text
    digits = subst (AllDigits 10) (sym s.1) (decimal_is_IsNumeral n (omega (arith, s.0))).0.1

    by_test : (t : Bool) → bytes_eq (take 2 text) (codes "0x") ≡ t
        → (if t then large_of (drop 2 text) else number_of text) ≡ Some n
    by_test true is = absurd (no_digit_x text digits (same_bytes (take 2 text) (codes "0x") is))
    by_test false is = ap number_of s.1 ∙ number_read n s.0
authority_read n text (inr s) = ap authority_of s.parts ∙ large_read s.digits n s.large s.spelled

-- ---- parts between hyphens

abbrev NoHyphen : List ℕ → Type 0
NoHyphen text = AllByRecursion (λ b. eqb b 45 ≡ false) text

split_plain : (text : List ℕ) → NoHyphen text → parts_between text ≡ text ∷ []
split_plain [] free = refl
split_plain (b ∷ text) free = ap (λ (t : Bool). cond t ([] ∷ parts_between text) (onto_first b (parts_between text)))
    free.0 ∙ ap (onto_first b) (split_plain text free.1)

split_one : (text rest : List ℕ) → NoHyphen text → parts_between (text ++ 45 ∷ rest) ≡ text ∷ parts_between rest
split_one [] rest free = refl
split_one (b ∷ text) rest free =
    ap (λ (t : Bool). cond t ([] ∷ parts_between (text ++ 45 ∷ rest))
    (onto_first b (parts_between (text ++ 45 ∷ rest)))) free.0 ∙ ap (onto_first b) (split_one text rest free.1)

digits_no : (text : List ℕ) → AllDigits 10 text → NoHyphen text
digits_no [] all = tt
digits_no (b ∷ text) all = (no_hyphen b all.0, digits_no text all.1)
  where
    no_hyphen : (b : ℕ) → digit_value b < 10 → eqb b 45 ≡ false
    no_hyphen b small = elim (cases_Bool (eqb b 45)) [
      | inl is ↦ absurd (omega (arith, subst (λ (c : ℕ). digit_value c < 10) (eqb-true b 45 is) small))
      | inr other ↦ other
    ]

decimal_no : (n : ℕ) → n < 2 ^ 32 → NoHyphen (decimal n)
decimal_no n small = digits_no (decimal n) (decimal_is_IsNumeral n (omega (arith, small))).0.1

hex_no : (text : List ℕ) → list_all is_hex_digit text ≡ true → NoHyphen text
hex_no [] all = tt
hex_no (b ∷ text) all =
    let t = and_parts (is_hex_digit b) (list_all is_hex_digit text) all in
    (no_hyphen b t.0, hex_no text t.1)
  where
    no_hyphen : (b : ℕ) → is_hex_digit b ≡ true → eqb b 45 ≡ false
    no_hyphen b e = elim (cases_Bool (eqb b 45)) [
      | inl is ↦ let bad : is_hex_digit 45 ≡ true = subst (λ (c : ℕ). is_hex_digit c ≡ true) (eqb-true b 45 is) e
          in absurd cc
      | inr other ↦ other
    ]

authority_no : (n : ℕ) (text : List ℕ) → SpellsAuthority n text → NoHyphen text
authority_no n text (inl s) = subst NoHyphen (sym s.1) (decimal_no n s.0)
authority_no n text (inr s) = subst NoHyphen (sym s.parts)
    (refl, (refl, hex_no s.digits (hex_back 12 n s.digits s.spelled).all))

split_all : (text : List ℕ) (ns : List ℕ) → NoHyphen text → AllByRecursion (λ n. n < 2 ^ 32) ns
    → parts_between (text ++ others_text ns) ≡ text ∷ map decimal ns
split_all text [] free all = ap parts_between (append-nil text) ∙ split_plain text free
split_all text (n ∷ ns) free all = split_one text (decimal n ++ others_text ns) free
    ∙ ap (λ (parts : List (List ℕ)). text ∷ parts) (split_all (decimal n) ns (decimal_no n all.0) all.1)

-- ---- the parts again

abbrev behind_hyphens : List (List ℕ) → List ℕ
behind_hyphens [] = []
behind_hyphens (part ∷ parts) = 45 ∷ part ++ behind_hyphens parts

abbrev joined : List (List ℕ) → List ℕ
joined [] = []
joined (part ∷ parts) = part ++ behind_hyphens parts

joined_onto : (b : ℕ) (parts : List (List ℕ)) → joined (onto_first b parts) ≡ b ∷ joined parts
joined_onto b [] = refl
joined_onto b (part ∷ parts) = refl

-- some part stands before a hyphen, and after it
record Parted (text : List ℕ) (parts : List (List ℕ)) : Type 0 where
  whole : joined parts ≡ text
  after_hyphen : behind_hyphens parts ≡ 45 ∷ text

parted_more : (b : ℕ) (text : List ℕ) (t : Bool) → eqb b 45 ≡ t → Parted text (parts_between text)
    → Parted (b ∷ text) (cond t ([] ∷ parts_between text) (onto_first b (parts_between text)))
parted_more b text true is h =
    let hyphen : b ≡ 45 = eqb-true b 45 is in
    let whole : behind_hyphens (parts_between text) ≡ b ∷ text = h.after_hyphen ∙ ap (λ (c : ℕ). c ∷ text)
    (sym hyphen) in
    record { whole = whole; after_hyphen = ap (λ (t : List ℕ). 45 ∷ t) whole }
parted_more b text false is h = onto (parts_between text) h
  where
    onto : (parts : List (List ℕ)) → Parted text parts → Parted (b ∷ text) (onto_first b parts)
    onto [] h = absurd (omega (arith, ap length h.after_hyphen))
    onto (part ∷ parts) h = record {
      whole = ap (λ (t : List ℕ). b ∷ t) h.whole;
      after_hyphen
          = ap (λ (t : List ℕ). 45 ∷ b ∷ t) h.whole;
    }

parted : (text : List ℕ) → Parted text (parts_between text)
parted [] = record { whole = refl; after_hyphen = refl }
parted (b ∷ text) = parted_more b text (eqb b 45) refl (parted text)

-- ---- the sub-authorities

record NumbersSay (parts : List (List ℕ)) (ns : List ℕ) : Type 0 where
  fit : AllByRecursion (λ n. n < 2 ^ 32) ns
  spelled : behind_hyphens parts ≡ others_text ns

numbers_told : (parts : List (List ℕ)) (ns : List ℕ) → numbers_of parts ≡ Some ns → NumbersSay parts ns
numbers_told [] ns e = subst (NumbersSay []) (same_Some [] ns e) (record { fit = tt; spelled = refl })
numbers_told (part ∷ parts) ns e =
    let a = from_then (λ n. option_map (λ (ms : List ℕ). n ∷ ms) (numbers_of parts)) (number_of part) ns e in
    let b = from_map (λ (ms : List ℕ). a.0 ∷ ms) (numbers_of parts) ns a.2 in
    let one = number_told part a.0 a.1 in
    let others = numbers_told parts b.0 b.1 in
    subst (NumbersSay (part ∷ parts)) b.2 (record {
      fit = (one.0, others.fit);
      spelled = ap (λ (t : List ℕ). 45 ∷ t ++ behind_hyphens parts) one.1 ∙ ap (λ (t : List ℕ). 45 ∷ decimal a.0 ++ t)
          others.spelled;
    })

numbers_read : (ns : List ℕ) → AllByRecursion (λ n. n < 2 ^ 32) ns → numbers_of (map decimal ns) ≡ Some ns
numbers_read [] all = refl
numbers_read (n ∷ ns) all =
    ap (option_and_then (λ n. option_map (λ (ms : List ℕ). n ∷ ms) (numbers_of (map decimal ns)))) (number_read n all.0)
    ∙ ap (option_map (λ (ms : List ℕ). n ∷ ms)) (numbers_read ns all.1)

-- ---- the identifier

record PartsSay (v : SidValue) (text : List ℕ) : Type 0 where
  is_sid : IsSid v
  authority : List ℕ
  spelled : SpellsAuthority v.authority authority
  parts : text ≡ authority ++ others_text v.sub_authorities

parts_told : (v : SidValue) (parts : List (List ℕ)) → sid_of_parts parts ≡ Some v → PartsSay v (joined parts)
parts_told v [] e = absurd cc
parts_told v (part ∷ parts) e =
    let a = from_then (λ n. option_and_then (with_numbers n) (numbers_of parts)) (authority_of part) v e in
    let b = from_then (with_numbers a.0) (numbers_of parts) v a.2 in
    let authority = authority_told part a.0 a.1 in
    let numbers = numbers_told parts b.0 b.1 in
    let c = checked_is (nat_le 1 (length b.0) && nat_le (length b.0) 15) (sid a.0 b.0) v b.2 in
    let bounds = and_parts (nat_le 1 (length b.0)) (nat_le (length b.0) 15) c.0 in
    subst (λ (w : SidValue). PartsSay w (joined (part ∷ parts))) c.1 (record {
      is_sid = record {
        authority = authority.small;
        at_least_one = leb-true 1 (length b.0) bounds.0;
        at_most_15
            = leb-true (length b.0) 15 bounds.1;
        sub_authorities = numbers.fit;
      };
      authority = part;
      spelled = authority.spelled;
      parts = ap (λ (t : List ℕ). part ++ t) numbers.spelled;
    })
  where
    sid : ℕ → List ℕ → SidValue
    sid n ns = record { authority = n; sub_authorities = ns }

parts_read : (v : SidValue) (authority : List ℕ) → IsSid v → SpellsAuthority v.authority authority
    → sid_of_parts (authority ∷ map decimal v.sub_authorities) ≡ Some v
parts_read v authority is s =
    let bounds : (nat_le 1 (length v.sub_authorities) && nat_le (length v.sub_authorities) 15) ≡ true =
    both (nat_le 1 (length v.sub_authorities)) (nat_le (length v.sub_authorities) 15)
    (le-leb 1 (length v.sub_authorities) is.at_least_one) (le-leb (length v.sub_authorities) 15 is.at_most_15) in
    ap (option_and_then (λ n. option_and_then (with_numbers n) (numbers_of (map decimal v.sub_authorities))))
    (authority_read v.authority authority s)
    ∙ ap (option_and_then (with_numbers v.authority)) (numbers_read v.sub_authorities is.sub_authorities)
    ∙ passes (nat_le 1 (length v.sub_authorities) && nat_le (length v.sub_authorities) 15) v bounds

-- the beginning is one of the two
front_told : (text : List ℕ) → begins_sid text ≡ true → IsFront text
front_told text e = elim (or_cases (bytes_eq text (codes "S-1-")) (bytes_eq text (codes "s-1-")) e) [
  | inl upper ↦ record { letter = 83; is_s = inl refl; parts = same_bytes text (codes "S-1-") upper }
  | inr lower ↦ record { letter = 115; is_s = inr refl; parts = same_bytes text (codes "s-1-") lower }
]

told_by : (v : SidValue) (text : List ℕ) (t : Bool) → begins_sid (take 4 text) ≡ t
    → (if t then sid_of_parts (parts_between (drop 4 text)) else None) ≡ Some v → SpellsSidText v text
told_by v text false is e = absurd cc
told_by v text true is e =
    let p = parts_told v (parts_between (drop 4 text)) e in
    let rest : drop 4 text ≡ p.authority ++ others_text v.sub_authorities = sym (parted (drop 4 text)).whole ∙ p.parts
    in
    record {
      is_sid = p.is_sid;
      front = take 4 text;
      is_front = front_told (take 4 text) is;
      authority = p.authority;
      spelled = p.spelled;
      parts = sym (take-append-drop 4 text) ∙ ap (λ (t : List ℕ). take 4 text ++ t) rest
          ∙ sym (append_assoc (take 4 text) p.authority (others_text v.sub_authorities));
    }

-- what it gives is encoded by the text
pub spells_of : (v : SidValue) (text : List ℕ) → sid_of_text text ≡ Some v → SpellsSidText v text
unfolding sid_of_text
spells_of v text e = told_by v text (begins_sid (take 4 text)) refl e

read_behind : (letter : ℕ) (rest : List ℕ) (v : SidValue) → (letter ≡ 83) ⊎ (letter ≡ 115)
    → sid_of_parts (parts_between rest) ≡ Some v → sid_of_text (letter ∷ codes "-1-" ++ rest) ≡ Some v
unfolding sid_of_text
read_behind letter rest v (inl upper) e = ap
    (λ (l : ℕ). if begins_sid (l ∷ codes "-1-") then sid_of_parts (parts_between rest) else None) upper ∙ e
read_behind letter rest v (inr lower) e = ap
    (λ (l : ℕ). if begins_sid (l ∷ codes "-1-") then sid_of_parts (parts_between rest) else None) lower ∙ e

-- and what is encoded is read
pub spelled_of : (v : SidValue) (text : List ℕ) → SpellsSidText v text → sid_of_text text ≡ Some v
spelled_of v text s =
    let rest = s.authority ++ others_text v.sub_authorities in
    let whole : text ≡ s.is_front.letter ∷ codes "-1-" ++ rest = s.parts ∙ append_assoc s.front s.authority
    (others_text v.sub_authorities) ∙ ap (λ (f : List ℕ). f ++ rest) s.is_front.parts in
    let parts : parts_between rest ≡ s.authority ∷ map decimal v.sub_authorities
    = split_all s.authority v.sub_authorities (authority_no v.authority s.authority s.spelled)
    s.is_sid.sub_authorities in
    ap sid_of_text whole ∙ read_behind s.is_front.letter rest v s.is_front.is_s
    (ap sid_of_parts parts ∙ parts_read v s.authority s.is_sid s.spelled)
