-- The records of units and users are read back.
use Rattle.std.proofs.Common.{◌≡◌, ◌∙◌, ℕ, ◌+◌, ◌*◌, ◌<◌, ◌≤◌, true, false, List, [], ◌∷◌, ◌++◌, length}
use Rattle.std.proofs.Common.{length-append, refl, ap, arith, codes}
use Rattle.std.proofs.Common.{decimal, Ok}
use Rattle.std.specs.List.{list_all, list_any}
use Rattle.std.proofs.lemmas.Bool.{le-leb}
use Rattle.std.proofs.lemmas.Fmt.{length-decimal-le}
use Rattle.std.proofs.lemmas.List.Folds.{list_all-append, list_any-append}
use Rattle.ad_dn.specs.Text.{rdns_text, value_text}
use Rattle.ad_ldif.specs.Fields.{is_line, name_of, behind_colon, without_blanks, value_of, is_nul}
use Rattle.ad_ldif.specs.Records.{record_of, from_dn, dn_at, body_of, is_fixed, name_at, value_at, short_value_at}
use Rattle.ad_ldif.specs.Records.{value_is, field_at, fields_of}
use Rattle.ad_ldif.specs.Records.{fields_behind, opening_of, is_short, is_version, Field}
use Rattle.ad_ldif.specs.Lines.{Line}
use Rattle.ad_gen_laws.specs.Plain.{fields_from}
use Rattle.ad_gen_laws.specs.Sample.{unit_name, unit_rdns, unit, user_name, user_sid_text, user}
use Rattle.ad_gen_laws.proofs.Blocks.{is_inner, is_plain, numbered}
use Rattle.ad_gen_laws.proofs.Texts.{Reads}
use Rattle.ad_gen_laws.proofs.Words.{is_word, both_words, decimal_word, word_inner, word_no_nul, word_text}

inner_both : (a b : List ℕ) → list_all is_inner a ≡ true → list_all is_inner b ≡ true → list_all is_inner (a ++ b)
    ≡ true
inner_both a b p q = list_all-append is_inner a b ∙ rw (p, q) refl

no_nul_both : (a b : List ℕ) → list_any is_nul a ≡ false → list_any is_nul b ≡ false → list_any is_nul (a ++ b) ≡ false
no_nul_both a b p q = list_any-append is_nul a b ∙ rw (p, q) refl

-- ---- units

pub unit_word : (i : ℕ) → i < 1000 → is_word (unit_name i) ≡ true
unit_word i few = both_words (codes "o") (decimal (i + 1)) refl (decimal_word (i + 1) (omega (arith, few)))

pub unit_dn : (i : ℕ) → i < 1000 → rdns_text (unit_rdns i) ≡ codes "OU=" ++ (unit_name i ++ codes ",DC=sample")
unfolding rdns_text value_text
unit_dn i few = ap (λ (text : List ℕ). codes "OU=" ++ (text ++ codes ",DC=sample"))
    (word_text (unit_name i) (unit_word i few))

-- ---- lines with a value that isn't closed

pub record IsValueText (text : List ℕ) : Type 0 where
  pub nul : list_any is_nul text ≡ false
  pub short : is_short text ≡ true
  pub blank : without_blanks text ≡ text

value_read : (k : ℕ) (text : List ℕ) → IsValueText text → short_value_at k (32 ∷ text) ≡ Ok text
unfolding short_value_at value_at value_of without_blanks
value_read k text is = rw is.blank (rw is.short refl)

abbrev dn_at_line : ℕ → List ℕ → Line
dn_at_line k text = record { number = k; text = codes "dn: " ++ text }

dn_named : (k : ℕ) (text : List ℕ) → IsValueText text → name_at (dn_at_line k text) ≡ Ok (codes "dn")
unfolding name_at is_line name_of
dn_named k text is = rw is.nul refl

dn_read : (k : ℕ) (text : List ℕ) → IsValueText text → dn_at (dn_at_line k text) ≡ Ok text
unfolding dn_at behind_colon
dn_read k text is = rw (dn_named k text is, value_read k text is) refl

no_version : (k : ℕ) (text : List ℕ) → IsValueText text → is_version (dn_at_line k text) ≡ Ok false
unfolding is_fixed
no_version k text is = rw (dn_named k text is) refl

abbrev sid_line : ℕ → List ℕ → Line
sid_line k text = record { number = k; text = codes "objectSid: " ++ text }

sid_named : (k : ℕ) (text : List ℕ) → IsValueText text → name_at (sid_line k text) ≡ Ok (codes "objectSid")
unfolding name_at is_line name_of
sid_named k text is = rw is.nul refl

sid_read : (k : ℕ) (text : List ℕ) → IsValueText text → field_at (sid_line k text)
    ≡ Ok (record { line = k; name = codes "objectSid"; value = text })
unfolding field_at behind_colon
sid_read k text is = rw (sid_named k text is, value_read k text is) refl

class_opens : (k : ℕ) → opening_of (record { number = k; text = codes "objectClass: user" })
    ≡ Ok (record { line = k; name = codes "objectClass"; value = codes "user" } ∷ [])
unfolding opening_of is_fixed name_at value_at short_value_at value_is field_at is_line name_of behind_colon
    without_blanks value_of
class_opens k = refl

unit_body : (k : ℕ) → body_of (record { number = k; text = codes "objectClass: organizationalUnit" } ∷ [])
    ≡ Ok (record { line = k; name = codes "objectClass"; value = codes "organizationalUnit" } ∷ [])
unfolding body_of fields_of fields_behind opening_of is_fixed name_at value_at short_value_at value_is field_at
    is_line name_of behind_colon without_blanks value_of
unit_body k = refl

user_body : (k : ℕ) (sid : List ℕ) → IsValueText sid
    → body_of (record { number = k; text = codes "objectClass: user" } ∷ sid_line (k + 1) sid ∷ [])
    ≡ Ok (record { line = k; name = codes "objectClass"; value = codes "user" }
    ∷ record { line = k + 1; name = codes "objectSid"; value = sid } ∷ [])
unfolding body_of fields_of fields_behind
user_body k sid is = rw (class_opens k, sid_read (k + 1) sid is) refl

whole_record : (k : ℕ) (text : List ℕ) (lines : List Line) (fields : List Field) → IsValueText text → body_of lines
    ≡ Ok fields
    → record_of (record { first = dn_at_line k text; others = lines })
    ≡ Ok (record { line = k; dn = text; fields = fields })
unfolding record_of from_dn
whole_record k text lines fields is body = rw (no_version k text is, dn_read k text is, body) refl

-- at most five digits, and a name of at most so many bytes
pub number_few : (n : ℕ) → n < 100000 → length (decimal n) ≤ 5
number_few n few = length-decimal-le 5 n (omega arith) (omega (arith, few)) (omega (arith, few))

pub unit_name_few : (i : ℕ) → i < 1000 → length (unit_name i) ≤ 6
unit_name_few i few = let d = number_few (i + 1) (omega (arith, few)) in omega (arith, d)

abbrev pub unit_text : ℕ → List ℕ
unit_text i = codes "OU=" ++ (unit_name i ++ codes ",DC=sample")

short_is : (text : List ℕ) → length text ≤ 100 → is_short text ≡ true
short_is text few = le-leb (length text) 1048576 (omega (arith, few))

unit_text_few : (i : ℕ) → i < 1000 → length (unit_text i) ≤ 30
unit_text_few i few =
    let n = unit_name_few i few in
    omega (arith, n, length-append (unit_name i) (codes ",DC=sample"))

unit_value : (i : ℕ) → i < 1000 → IsValueText (unit_text i)
unfolding without_blanks
unit_value i few = record {
  nul = no_nul_both (unit_name i) (codes ",DC=sample") (word_no_nul (unit_name i) (unit_word i few)) refl;
  short = short_is (unit_text i) (omega (arith, unit_text_few i few));
  blank = refl;
}

pub unit_reads : (i : ℕ) → i < 1000 → Reads (unit i)
unfolding fields_from numbered
unit_reads i few =
    let dn = unit_dn i few in
    record {
      first = ap (λ (text : List ℕ). is_plain (codes "dn: " ++ text)) dn ∙ inner_both (unit_name i)
          (codes ",DC=sample") (word_inner (unit_name i) (unit_word i few)) refl;
      others = refl;
      read = λ k. rw dn (whole_record k (unit_text i) _ _ (unit_value i few) (unit_body (k + 1)));
    }

-- ---- users

pub user_word : (i j : ℕ) → i < 1000 → j ≤ 10 → is_word (user_name i j) ≡ true
user_word i j few least =
    both_words (codes "u") (decimal (i + 1) ++ (codes "-" ++ decimal j)) refl
    (both_words (decimal (i + 1)) (codes "-" ++ decimal j) (decimal_word (i + 1) (omega (arith, few)))
    (both_words (codes "-") (decimal j) refl (decimal_word j (omega (arith, least)))))

abbrev user_text : ℕ → ℕ → List ℕ
user_text i j = codes "CN=" ++ (user_name i j ++ (44 ∷ unit_text i))

pub user_dn : (i j : ℕ) → i < 1000 → j ≤ 10 → rdns_text (user i j).rdns ≡ user_text i j
unfolding rdns_text value_text
user_dn i j few least =
    ap (λ (text : List ℕ). codes "CN=" ++ (text ++ (44 ∷ rdns_text (unit_rdns i))))
    (word_text (user_name i j) (user_word i j few least))
    ∙ ap (λ (text : List ℕ). codes "CN=" ++ (user_name i j ++ (44 ∷ text))) (unit_dn i few)

pub user_name_few : (i j : ℕ) → i < 1000 → j ≤ 10 → length (user_name i j) ≤ 12
user_name_few i j few least =
    let a = number_few (i + 1) (omega (arith, few)) in
    let b = number_few j (omega (arith, least)) in
    omega (arith, a, b, length-append (decimal (i + 1)) (codes "-" ++ decimal j))

user_text_few : (i j : ℕ) → i < 1000 → j ≤ 10 → length (user_text i j) ≤ 60
user_text_few i j few least =
    let a = user_name_few i j few least in
    let b = unit_text_few i few in
    omega (arith, a, b, length-append (user_name i j) (44 ∷ unit_text i))

user_value : (i j : ℕ) → i < 1000 → j ≤ 10 → IsValueText (user_text i j)
unfolding without_blanks
user_value i j few least = record {
  nul = no_nul_both (user_name i j) (44 ∷ unit_text i) (word_no_nul (user_name i j) (user_word i j few least))
      (unit_value i few).nul;
  short = short_is (user_text i j) (omega (arith, user_text_few i j few least));
  blank = refl;
}

sid_word : (i j : ℕ) → i < 1000 → j ≤ 10 → is_word (user_sid_text i j) ≡ true
sid_word i j few least = both_words (codes "S-1-5-21-1-2-3-") (decimal (1000 + 10 * i + j)) refl
    (decimal_word (1000 + 10 * i + j) (omega (arith, few, least)))

sid_value : (i j : ℕ) → i < 1000 → j ≤ 10 → IsValueText (user_sid_text i j)
unfolding without_blanks
sid_value i j few least = record {
  nul = word_no_nul (user_sid_text i j) (sid_word i j few least);
  short = short_is (user_sid_text i j) (let d = number_few (1000 + 10 * i + j) (omega (arith, few, least))
      in omega (arith, d));
  blank = refl;
}

pub user_reads : (i j : ℕ) → i < 1000 → j ≤ 10 → Reads (user i j)
unfolding fields_from numbered
user_reads i j few least =
    let dn = user_dn i j few least in
    let unit_inner = inner_both (unit_name i) (codes ",DC=sample") (word_inner (unit_name i) (unit_word i few)) refl in
    let inner = inner_both (user_name i j) (44 ∷ unit_text i) (word_inner (user_name i j) (user_word i j few least))
    unit_inner in
    let sid_inner = word_inner (user_sid_text i j) (sid_word i j few least) in
    record {
      first = ap (λ (text : List ℕ). is_plain (codes "dn: " ++ text)) dn ∙ inner;
      others = rw sid_inner refl;
      read = λ k. rw dn (whole_record k (user_text i j) _ _ (user_value i j few least)
          (user_body (k + 1) (user_sid_text i j) (sid_value i j few least)));
    }
