-- Rows of objects, and whether nobody is told yes.
use Rattle.std.proofs.Common.{◌≡◌, ◌∙◌, ℕ, zero, suc, ◌+◌, ◌<◌, ◌⊎◌, inl, inr, Bool, true, false, not, ◌&&◌, ◌||◌, Option}
use Rattle.std.proofs.Common.{Some, None, List, [], ◌∷◌, ◌++◌, length, map, take, get_or, cond, refl, sym, ap, subst, arith}
use Rattle.std.specs.Prelude.{if◌then◌else◌, filter, slice_get}
use Rattle.std.specs.List.{list_any, AllZip, All}
use Rattle.std.specs.Option.{option_to_list}
use Rattle.std.proofs.lemmas.Bool.{cases_lt, cases_Bool, false≢true}
use Rattle.std.proofs.lemmas.Option.{none-some, same_Some}
use Rattle.std.proofs.lemmas.List.{append-nil, take_more, map-append, length-map}
use Rattle.std.proofs.lemmas.List.Elements.{filter-append}
use Rattle.std.proofs.lemmas.Slice.Zip.{all_zipped_more}
use Rattle.ad_ids.specs.declared.token.Token.{Token}
use Rattle.ad_dir_model.specs.Objects.{is_live}
use Rattle.ad_dir_model.specs.Directory.{Directory}
use Rattle.ad_identities.specs.declared.identity.Identity.{Identity}
use Rattle.ad_questions.specs.declared.question.Question.{Question}
use Rattle.ad_questions.specs.Requirements.{is_allowed}
use Rattle.ad_sets.specs.declared.told.Sign.{Sign}
use Rattle.ad_sets.specs.declared.row.Row.{Row}
use Rattle.ad_sets.specs.Told.{RowValue, stands_in, signed}
use Rattle.ad_sets.specs.Sets.{is_nobody, Keeps}
use Rattle.ad_sets.specs.Rows.{told_set, told_sign, is_told_by, IsRow, AreRows}
use Rattle.ad_rights_rows.specs.Rows.{base_at, whole_at, row_at, rows_of, is_told}
use Rattle.ad_rights_rows.specs.Steps.{IsRowIf, IsToldBy}

-- ---- nobody

pub none_there : (whole : List Bool) → ((q : ℕ) → q < length whole → stands_in whole q ≡ false) → is_nobody whole ≡ true
none_there [] none = refl
none_there (true ∷ whole) none = absurd (false≢true (sym (none 0 (omega arith))))
none_there (false ∷ whole) none = none_there whole (λ q lt. none (suc q) (omega (arith, lt)))

pub one_there : (whole : List Bool) (q : ℕ) → stands_in whole q ≡ true → is_nobody whole ≡ false
one_there [] q is = absurd (false≢true is)
one_there (true ∷ whole) q is = refl
one_there (false ∷ whole) zero is = absurd (false≢true is)
one_there (false ∷ whole) (suc q) is = one_there whole q is

pub length_told : (own : Option ℕ) (base whole : List Bool) → length base ≡ length whole
    → length whole ≡ length (told_set own base whole)
unfolding told_set
length_told own base whole same = by (is_told_by own base whole)
  where
    by : (b : Bool) → length whole ≡ length (if b then base else whole)
    by true = sym same
    by false = refl

pub same_length : (dir : Directory) (tokens : List Token) (question : Question) (number : ℕ)
    → length (base_at dir tokens question number) ≡ length (whole_at dir tokens question number)
unfolding base_at whole_at
same_length dir tokens question number = length-map tokens _ ∙ sym (length-map tokens _)

pub told_by : (set base whole : List Bool) (own : Option ℕ) (sign : Sign) → length base ≡ length whole
    → set ≡ told_set own base whole → sign ≡ told_sign own base whole
    → ((member : ℕ) → signed (told_sign own base whole) own member (stands_in (told_set own base whole) member)
    ≡ stands_in whole member)
    → IsToldBy set own sign whole
told_by set base whole own sign same set_is sign_is tells = (
  length_told own base whole same ∙ ap length (sym set_is),
  λ member.
      ap (λ (s : Sign). signed s own member (stands_in set member)) sign_is
      ∙ ap (λ (l : List Bool). signed (told_sign own base whole) own member (stands_in l member)) set_is
      ∙ tells member,
)

-- ---- the whole

pub whole_there : (dir : Directory) (tokens : List Token) (question : Question) (number member : ℕ) (token : Token)
    → slice_get tokens member ≡ Some token
    → stands_in (whole_at dir tokens question number) member ≡ is_allowed dir token question number
unfolding whole_at
whole_there dir [] question number member token there = absurd (none-some token there)
whole_there dir (t ∷ tokens) question number zero token there =
    ap (λ (u : Token). is_allowed dir u question number) (same_Some t token there)
whole_there dir (t ∷ tokens) question number (suc member) token there =
    whole_there dir tokens question number member token there

-- ---- rows

pub row_unless : (dir : Directory) (members : List Identity) (tokens : List Token) (question : Question) (number : ℕ)
    (sets : List (List Bool)) (nobody : Bool) (row : Row) → nobody ≡ is_nobody (whole_at dir tokens question number)
    → IsRow sets row (row_at dir members tokens question number)
    → IsRowIf dir members tokens question number sets (if nobody then None else Some row)
row_unless dir members tokens question number sets true row is is_row = ap not (sym is)
row_unless dir members tokens question number sets false row is is_row = (ap not (sym is), is_row)

rows_kept : (old new : List (List Bool)) (rows : List Row) (values : List RowValue) → Keeps old new
    → AreRows old rows values → AreRows new rows values
rows_kept old new [] [] kept are = are
rows_kept old new [] (value ∷ values) kept are = are
rows_kept old new (row ∷ rows) [] kept are = are
rows_kept old new (row ∷ rows) (value ∷ values) kept are = (
  record { object = are.0.object; set_is = kept row.place value.set are.0.set_is; sign = are.0.sign },
  rows_kept old new rows values kept are.1,
)

pub rows_more : (dir : Directory) (members : List Identity) (tokens : List Token) (question : Question) (number : ℕ)
    (old new : List (List Bool)) (rows more : List Row) (row : Option Row) (values : List RowValue) → Keeps old new
    → AreRows old rows values → IsRowIf dir members tokens question number new row
    → more ≡ rows ++ option_to_list row
    → AreRows new more (values ++ rows_of dir members tokens question (number ∷ []))
rows_more dir members tokens question number old new rows more None values kept are is more_is =
    let value : RowValue = row_at dir members tokens question number in
    subst (λ (l : List Row). AreRows new l (values ++ rows_of dir members tokens question (number ∷ [])))
    (sym (append-nil rows) ∙ sym more_is)
    (subst (λ (l : List RowValue). AreRows new rows l)
    (sym (append-nil values) ∙ ap (λ (b : Bool). values ++ map (row_at dir members tokens question)
    (cond b (number ∷ []) [])) (sym is))
    (rows_kept old new rows values kept are))
rows_more dir members tokens question number old new rows more (Some row) values kept are is more_is =
    subst (λ (l : List Row). AreRows new l (values ++ rows_of dir members tokens question (number ∷ []))) (sym more_is)
    (subst (λ (l : List RowValue). AreRows new (rows ++ row ∷ []) l)
    (ap (λ (b : Bool). values ++ map (row_at dir members tokens question) (cond b (number ∷ []) [])) (sym is.0))
    (all_zipped_more (IsRow new) rows values row (row_at dir members tokens question number)
    (rows_kept old new rows values kept are) is.1))

pub rows_next : (dir : Directory) (members : List Identity) (tokens : List Token) (question : Question) (all : List ℕ)
    (i d : ℕ) (sets : List (List Bool)) (rows : List Row) → i < length all
    → AreRows sets rows (rows_of dir members tokens question (take i all)
    ++ rows_of dir members tokens question (get_or all i d ∷ []))
    → AreRows sets rows (rows_of dir members tokens question (take (i + 1) all))
rows_next dir members tokens question all i d sets rows lt are =
    subst (AreRows sets rows)
    (sym (ap (rows_of dir members tokens question) (take_more all i d lt)
    ∙ ap (map (row_at dir members tokens question))
    (filter-append (is_told dir tokens question) (take i all) (get_or all i d ∷ []))
    ∙ map-append (row_at dir members tokens question) (filter (is_told dir tokens question) (take i all))
    (filter (is_told dir tokens question) (get_or all i d ∷ [])))) are
