-- No two units have one name, nor two users of a unit; and the users' identifiers are those of their numbers.
use Rattle.std.proofs.Common.{◌≡◌, ◌∙◌, inl, ℕ, ◌+◌, ◌*◌, ◌^◌, ◌<◌, ◌≤◌, true, nat_lt}
use Rattle.std.proofs.Common.{List, [], ◌∷◌, ◌++◌, map, drop, Some, refl, sym, ap, arith, codes, decimal}
use Rattle.std.specs.Char.{to_ascii_lowercase}
use Rattle.std.specs.Fmt.{digits}
use Rattle.std.specs.Prelude.{chars}
use Rattle.std.specs.Str.Parse.{AllDigits}
use Rattle.std.proofs.lemmas.Bool.{lt-ltb}
use Rattle.std.proofs.lemmas.Fmt.{decimal_is_IsNumeral, decimal_injective}
use Rattle.std.proofs.lemmas.List.{append-nil, map-append}
use Rattle.std.proofs.lemmas.Str.{chars-IsAscii, encodes_same}
use Rattle.std.proofs.lemmas.Str.Ascii.{All-from_ascii}
use Rattle.std.proofs.lemmas.Str.Parse.{digit_from_value}
use Rattle.caseless.specs.Caseless.{default_case_fold}
use Rattle.caseless.proofs.CaselessLemmas.{default_case_fold-ascii}
use Rattle.ad_bytes.specs.Numbers.{byte_at}
use Rattle.ad_dn.specs.Fold.{folded}
use Rattle.ad_gen.specs.Frames.{in_domain}
use Rattle.ad_ids.specs.Sid.{IsSid}
use Rattle.ad_ids.specs.SidGrammar.{SpellsSidText}
use Rattle.ad_ids.specs.SidText.{others_text}
use Rattle.ad_ids.specs.SidReading.{header_at, sid_at}
use Rattle.ad_ids.proofs.SidOfTextLaws.{spelled_of}
use Rattle.ad_value.specs.ValueOf.{sid_of}
use Rattle.ad_gen_laws.specs.Sample.{unit_name, user_name, user_sid_text}
use Rattle.ad_gen_laws.proofs.Units.{unit_word, user_word}
use Rattle.ad_gen_laws.proofs.Words.{is_word, word_ascii}

-- ---- identifiers

abbrev user_text_of : ℕ → List ℕ
user_text_of rid = codes "S-1-5-21-1-2-3-" ++ decimal rid

one : decimal 1 ≡ codes "1"
unfolding digits
one = refl

two : decimal 2 ≡ codes "2"
unfolding digits
two = refl

three : decimal 3 ≡ codes "3"
unfolding digits
three = refl

twenty_one : decimal 21 ≡ codes "21"
unfolding digits
twenty_one = refl

fifth : decimal 5 ≡ codes "5"
unfolding digits
fifth = refl

parted : (rid : ℕ) → user_text_of rid ≡ codes "S-1-" ++ codes "5" ++ others_text (21 ∷ 1 ∷ 2 ∷ 3 ∷ rid ∷ [])
parted rid =
    rw (one, two, three, twenty_one) (ap (λ (t : List ℕ). codes "S-1-5-21-1-2-3-" ++ t)
    (sym (append-nil (decimal rid))))

pub sid_is : (rid : ℕ) → rid < 2 ^ 32 → IsSid (in_domain rid)
sid_is rid small = record {
  authority = omega arith;
  at_least_one = omega arith;
  at_most_15 = omega arith;
  sub_authorities = (omega arith, (omega arith, (omega arith, (omega arith, (omega (arith, small), tt)))));
}

spelled : (rid : ℕ) → rid < 2 ^ 32 → SpellsSidText (in_domain rid) (user_text_of rid)
spelled rid small = record {
  is_sid = sid_is rid small;
  front = codes "S-1-";
  is_front = record { letter = 83; is_s = inl refl; parts = refl };
  authority = codes "5";
  spelled = inl (omega arith, sym fifth);
  parts = parted rid;
}

pub user_sid_read : (i j : ℕ) → i < 1000 → j ≤ 10 → sid_of (user_sid_text i j) ≡ Some (in_domain (1000 + 10 * i + j))
unfolding sid_of sid_at header_at byte_at
user_sid_read i j few least =
    let rid = 1000 + 10 * i + j in
    rw (spelled_of (in_domain rid) (user_text_of rid) (spelled rid (omega (arith, few, least)))) refl

-- ---- names

lower_digits : (ds : List ℕ) → AllDigits 10 ds → map to_ascii_lowercase ds ≡ ds
lower_digits [] all = refl
lower_digits (c ∷ cs) all =
    let r = digit_from_value c all.0 in
    let low : nat_lt c 65 ≡ true = lt-ltb c 65 (omega (arith, r.1)) in
    rw (low, lower_digits cs all.1) refl

lower_decimal : (n : ℕ) → n < 2 ^ 32 → map to_ascii_lowercase (decimal n) ≡ decimal n
lower_decimal n small = lower_digits (decimal n) (decimal_is_IsNumeral n (omega (arith, small))).0.1

-- a word after folding
word_folds : (w : List ℕ) → is_word w ≡ true → default_case_fold (chars w) ≡ map to_ascii_lowercase w
word_folds w word =
    let ascii = word_ascii w word in
    ap default_case_fold (chars-IsAscii w ascii) ∙ default_case_fold-ascii w (All-from_ascii w ascii)

unfolded : (v w : List ℕ) → folded v ≡ folded w → default_case_fold (chars v) ≡ default_case_fold (chars w)
unfolding folded
unfolded v w e = encodes_same (default_case_fold (chars v)) (default_case_fold (chars w)) e

pub words_fold : (v w : List ℕ) → is_word v ≡ true → is_word w ≡ true → folded v ≡ folded w → map to_ascii_lowercase v
    ≡ map to_ascii_lowercase w
words_fold v w p q e = sym (word_folds v p) ∙ unfolded v w e ∙ word_folds w q

cancelled : (d x y : List ℕ) → d ++ x ≡ d ++ y → x ≡ y
cancelled [] x y e = e
cancelled (b ∷ d) x y e = cancelled d x y (ap (drop 1) e)

pub units_differ : (i k : ℕ) → i < 1000 → k < 1000 → folded (unit_name i) ≡ folded (unit_name k) → i ≡ k
units_differ i k few also e =
    let lower = ap (drop 1) (words_fold (unit_name i) (unit_name k) (unit_word i few) (unit_word k also) e) in
    let same : decimal (i + 1) ≡ decimal (k + 1) = sym (lower_decimal (i + 1) (omega (arith, few))) ∙ lower
    ∙ lower_decimal (k + 1) (omega (arith, also)) in
    let n = decimal_injective (i + 1) (k + 1) (omega (arith, few)) (omega (arith, also)) same in
    omega (arith, n)

pub users_differ : (i j k : ℕ) → i < 1000 → j ≤ 10 → k ≤ 10 → folded (user_name i j) ≡ folded (user_name i k) → j ≡ k
users_differ i j k few least also e =
    let lower = words_fold (user_name i j) (user_name i k) (user_word i j few least) (user_word i k few also) e in
    let d : List ℕ = map to_ascii_lowercase (decimal (i + 1)) in
    let behind : d ++ map to_ascii_lowercase (codes "-" ++ decimal j) ≡ d ++ map to_ascii_lowercase
    (codes "-" ++ decimal k) =
    sym (map-append to_ascii_lowercase (decimal (i + 1)) (codes "-" ++ decimal j)) ∙ ap (drop 1) lower
    ∙ map-append to_ascii_lowercase (decimal (i + 1)) (codes "-" ++ decimal k) in
    let ends = ap (drop 1) (cancelled d _ _ behind) in
    let same : decimal j ≡ decimal k = sym (lower_decimal j (omega (arith, least))) ∙ ends
    ∙ lower_decimal k (omega (arith, also)) in
    decimal_injective j k (omega (arith, least)) (omega (arith, also)) same
