-- Numbers, identifiers and names as words and lines, and what is read of them.
use Rattle.std.proofs.Common.{Bool, eqb, nat_lt, ◌≡◌, inl, inr, ℕ, zero, suc, ◌%◌, ◌/◌, ◌^◌, ◌<◌, ◌≤◌, true, false}
use Rattle.std.proofs.Common.{if◌then◌else◌, Some, None, List, [], ◌∷◌, ◌++◌, codes, decimal, refl, ap}
use Rattle.std.proofs.Common.{subst, ◌∙◌, append_assoc, arith, lt-ltb}
use Rattle.std.specs.Prelude.{not, ◌==◌}
use Rattle.std.specs.List.{AllByRecursion}
use Rattle.std.specs.Str.{bytes_eq}
use Rattle.std.specs.Str.Parse.{AllDigits}
use Rattle.std.specs.Char.{digit_value}
use Rattle.std.proofs.lemmas.Bool.{and_parts, cases_lt}
use Rattle.std.proofs.lemmas.Bool.Decides.{nat_tests}
use Rattle.std.proofs.lemmas.Str.Parse.{digit_from_value}
use Rattle.std.proofs.lemmas.Fmt.{decimal_is_IsNumeral}
use Rattle.std.proofs.lemmas.Slice.Eq.{bytes_eq-Decides}
use Rattle.uuid.specs.Text.{lower}
use Rattle.uuid.proofs.TextLemmas.{table_at}
use Rattle.ad_bytes.specs.Hex.{hex_digit}
use Rattle.ad_bytes.specs.Puts.{spaced}
use Rattle.ad_ids.specs.SidValue.{SidValue}
use Rattle.ad_ids.specs.Sid.{IsSid}
use Rattle.ad_ids.specs.SidText.{hex_digits, authority_text, others_text, sid_text}
use Rattle.ad_ids.specs.SidFront.{sid_of_text}
use Rattle.ad_ids.proofs.SidTextWriting.{spelled_by_text}
use Rattle.ad_ids.proofs.SidFront.{spelled_of}
use Rattle.ad_sddl.specs.Canonical.{hex_text}
use Rattle.ad_dn.specs.declared.rdn.Dn.{Dn}
use Rattle.ad_dn.specs.Value.{AreRdns}
use Rattle.ad_dn.specs.Text.{is_control, has_no_control, dn_text}
use Rattle.ad_dn.specs.Reading.{dn_of}
use Rattle.ad_dn.proofs.Spelled.{rdns_spelled}
use Rattle.ad_dn.proofs.OneLine.{rdns_shown}
use Rattle.ad_dn.proofs.ReadOff.{dn_again}
use Rattle.ad_text_laws.specs.Lines.{is_line, is_word, word_of, number_if, number_of}
use Rattle.ad_text_laws.proofs.LineLaws.{both, two_words, word_first}

-- a word, a blank and what stands after it
pub word_then : (word rest : List ℕ) → is_word word ≡ true → word_of (spaced word ++ rest) ≡ Some (word, rest)
word_then word rest e = ap word_of (append_assoc word (32 ∷ []) rest) ∙ word_first word rest e

-- ---- numbers

digit_word : (c : ℕ) → digit_value c < 10 → nat_lt 32 c ≡ true
digit_word c small =
    let r = digit_from_value c small in
    lt-ltb 32 c (omega (arith, r.0))

digits_word : (ds : List ℕ) → AllDigits 10 ds → is_word ds ≡ true
digits_word [] all = refl
digits_word (c ∷ cs) all = both (nat_lt 32 c) (is_word cs) (digit_word c all.0) (digits_word cs all.1)

pub decimal_word : (n : ℕ) → n < 2 ^ 64 → is_word (decimal n) ≡ true
decimal_word n small = digits_word (decimal n) (decimal_is_IsNumeral n small).0.1

-- a text that begins with a letter is no number's
pub decimal_other : (n c : ℕ) (letters : List ℕ) → n < 2 ^ 64 → 57 < c → bytes_eq (decimal n) (c ∷ letters) ≡ false
decimal_other n c letters small letter = by (bytes_eq (decimal n) (c ∷ letters)) refl
  where
    by : (t : Bool) → bytes_eq (decimal n) (c ∷ letters) ≡ t → t ≡ false
    by false e = refl
    by true e =
        let digits : AllDigits 10 (c ∷ letters) = subst (AllDigits 10) ((bytes_eq-Decides (decimal n) (c ∷ letters)).0 e)
        (decimal_is_IsNumeral n small).0.1 in
        let r = digit_from_value c digits.0 in
        absurd (omega (arith, r.1, letter))

pub number_back : (n : ℕ) → n < 2 ^ 64 → number_of (decimal n) ≡ Some n
unfolding number_of
number_back n small =
    ap (number_if (decimal n)) (decimal_is_IsNumeral n small).1
    ∙ ap (λ (t : Bool). if t then Some n else None)
    (both (bytes_eq (decimal n) (decimal n)) (nat_lt n (2 ^ 64)) ((bytes_eq-Decides (decimal n) (decimal n)).1 refl) (lt-ltb n (2 ^ 64) small))

-- ---- identifiers

hex_word : (d : ℕ) → d < 16 → nat_lt 32 (hex_digit d) ≡ true
hex_word d small = rw (table_at lower d 0 (inl refl) small) (grind (arith, nat_tests))

hex_words : (k n : ℕ) → is_word (hex_digits k n) ≡ true
unfolding hex_digits
hex_words zero n = refl
hex_words (suc k) n = two_words (hex_digits k (n / 16)) (hex_digit (n % 16) ∷ []) (hex_words k (n / 16))
    (both (nat_lt 32 (hex_digit (n % 16))) true (hex_word (n % 16) (omega arith)) refl)

unless_none : (t : Bool) (text : List ℕ) → is_word text ≡ true → is_word (if t then [] else text) ≡ true
unless_none true text e = refl
unless_none false text e = e

pub hex_text_word : (k n : ℕ) → is_word (hex_text k n) ≡ true
unfolding hex_text
hex_text_word zero n = refl
hex_text_word (suc k) n = unless_none (n == 0) (hex_text k (n / 16) ++ hex_digit (n % 16) ∷ [])
    (two_words (hex_text k (n / 16)) (hex_digit (n % 16) ∷ []) (hex_text_word k (n / 16))
    (both (nat_lt 32 (hex_digit (n % 16))) true (hex_word (n % 16) (omega arith)) refl))

authority_word : (n : ℕ) → is_word (authority_text n) ≡ true
authority_word n = elim (cases_lt n (2 ^ 32)) [
  | inl low ↦ ap (λ (t : Bool). is_word (if t then decimal n else codes "0x" ++ hex_digits 12 n)) (lt-ltb n (2 ^ 32) low)
      ∙ decimal_word n (omega (arith, low))
  | inr high ↦ ap (λ (t : Bool). is_word (if t then decimal n else codes "0x" ++ hex_digits 12 n)) (is_high high)
      ∙ two_words (codes "0x") (hex_digits 12 n) refl (hex_words 12 n)
]
  where
    is_high : 2 ^ 32 ≤ n → nat_lt n (2 ^ 32) ≡ false
    is_high high = grind (arith, nat_tests)

others_word : (ns : List ℕ) → AllByRecursion (λ n. n < 2 ^ 32) ns → is_word (others_text ns) ≡ true
others_word [] all = refl
others_word (n ∷ ns) all = two_words (45 ∷ decimal n) (others_text ns)
    (both true (is_word (decimal n)) refl (decimal_word n (omega (arith, all.0)))) (others_word ns all.1)

pub sid_word : (sid : SidValue) → IsSid sid → is_word (sid_text sid) ≡ true
sid_word sid is = two_words (codes "S-1-" ++ authority_text sid.authority) (others_text sid.sub_authorities)
    (two_words (codes "S-1-") (authority_text sid.authority) refl (authority_word sid.authority))
    (others_word sid.sub_authorities is.sub_authorities)

pub sid_back : (sid : SidValue) → IsSid sid → sid_of_text (sid_text sid) ≡ Some sid
sid_back sid is = spelled_of sid (sid_text sid) (spelled_by_text sid is)

-- ---- names

shown_line : (text : List ℕ) → has_no_control text ≡ true → is_line text ≡ true
shown_line [] e = refl
shown_line (b ∷ bytes) e =
    let p = and_parts (not (is_control b)) (has_no_control bytes) e in
    both (not (eqb b 10)) (is_line bytes) (byte b p.0) (shown_line bytes p.1)
  where
    byte : (c : ℕ) → not (is_control c) ≡ true → not (eqb c 10) ≡ true
    byte c h = grind (arith, nat_tests)

pub name_line : (dn : Dn) → AreRdns dn.rdns → is_line (dn_text dn) ≡ true
name_line dn are = shown_line (dn_text dn) (rdns_shown dn.rdns are)

pub name_back : (dn : Dn) → AreRdns dn.rdns → dn_of (dn_text dn) ≡ Some dn
name_back dn are = dn_again (dn_text dn) dn (rdns_spelled dn.rdns are)
