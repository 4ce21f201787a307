-- Of whom and of what the facts of rights tell: of those who have a token, and of live objects.
use Rattle.std.proofs.Common.{◌≡◌, ◌∙◌, ℕ, zero, suc, ◌+◌, ◌^◌, ◌<◌, ◌≤◌, inl, inr, Bool, true, false, Option, Some, None, List}
use Rattle.std.proofs.Common.{[], ◌∷◌, ◌++◌, length, map, if◌then◌else◌, refl, sym, ap, subst, arith}
use Rattle.std.specs.Prelude.{filter}
use Rattle.std.specs.List.{AllByRecursion}
use Rattle.std.specs.Option.{option_map, option_map_or}
use Rattle.std.proofs.lemmas.Option.{none-some, same_Some}
use Rattle.std.proofs.lemmas.List.{length-map}
use Rattle.ad_ids.specs.declared.token.Token.{Token}
use Rattle.ad_dir_model.specs.Directory.{Directory}
use Rattle.ad_dir_model.specs.Object.{Object}
use Rattle.ad_dir_model.specs.Objects.{is_live, numbers}
use Rattle.ad_dir_model.specs.Changes.{goes_with}
use Rattle.ad_dir_model.proofs.Counting.{all_numbers}
use Rattle.ad_identities.specs.declared.identity.Identity.{Identity}
use Rattle.ad_questions.specs.declared.question.Question.{Question}
use Rattle.ad_sets.specs.declared.told.Fact.{Fact}
use Rattle.ad_sets.specs.declared.told.Fact.TheVariants.{In, On}
use Rattle.ad_sets.specs.Told.{RowValue, same_set, place_in, members_from, facts_from, row_facts}
use Rattle.ad_sets.specs.Rows.{told_set}
use Rattle.ad_rights_rows.specs.Rows.{AreParties, base_at, whole_at, own_at, row_at, is_told, rows_of, rows_below}
use Rattle.ad_rights_rows.proofs.Telling.{same_length, length_told}

-- ---- who has a token

pub same_count : (dir : Directory) (all parties : List Identity) (tokens : List Token) (lacking : List Identity)
    → AreParties dir all parties tokens lacking → length tokens ≡ length parties
same_count dir [] parties tokens lacking are =
    ap (λ (l : List Token). length l) are.1.0 ∙ sym (ap (λ (l : List Identity). length l) are.0)
same_count dir (identity ∷ others) parties tokens lacking (inl is) =
    ap (λ (l : List Token). length l) is.5
    ∙ ap suc (same_count dir others is.1 is.2 lacking is.6)
    ∙ sym (ap (λ (l : List Identity). length l) is.4)
same_count dir (identity ∷ others) parties tokens lacking (inr is) =
    same_count dir others parties tokens is.0 is.3

-- what is so of all identities is so of those who have a token, and of those who don't
pub parties_are : (P : Identity → Type 0) (dir : Directory) (all parties : List Identity) (tokens : List Token)
    (lacking : List Identity) → AreParties dir all parties tokens lacking → AllByRecursion P all
    → AllByRecursion P parties × AllByRecursion P lacking
parties_are P dir [] parties tokens lacking are each =
    (subst (AllByRecursion P) (sym are.0) tt, subst (AllByRecursion P) (sym are.1.1) tt)
parties_are P dir (identity ∷ others) parties tokens lacking (inl is) each =
    let rest = parties_are P dir others is.1 is.2 lacking is.6 each.1 in
    (subst (AllByRecursion P) (sym is.4) (each.0, rest.0), rest.1)
parties_are P dir (identity ∷ others) parties tokens lacking (inr is) each =
    let rest = parties_are P dir others parties tokens is.0 is.3 each.1 in
    (rest.0, subst (AllByRecursion P) (sym is.2) (each.0, rest.1))

-- ---- places of sets

place_below : (told : List (List Bool)) (set : List Bool) (place : ℕ) → place_in told set ≡ Some place
    → place < length told
unfolding place_in
place_below [] set place is = absurd (none-some place is)
place_below (first ∷ told) set place is = by (same_set first set) (place_in told set) (place_below told set) place is
  where
    by : (b : Bool) (found : Option ℕ) → ((n : ℕ) → found ≡ Some n → n < length told) → (place : ℕ)
        → (if b then Some 0 else option_map (λ (n : ℕ). n + 1) found) ≡ Some place → place < suc (length told)
    by true found below place is = omega (arith, same_Some 0 place is)
    by false None below place is = absurd (none-some place is)
    by false (Some n) below place is = omega (arith, below n refl, same_Some (n + 1) place is)

longer : (told : List (List Bool)) (set : List Bool) → length (told ++ set ∷ []) ≡ length told + 1
longer [] set = refl
longer (first ∷ told) set = omega (arith, longer told set)

-- ---- facts

module _ (dir : Directory) (parties : List Identity) where
  -- its number is small, and it is of somebody who is there, or of a live object
  abbrev pub IsTellable : Fact → Type 0
  IsTellable (In number place) = (number < 2 ^ 64) × (place < length parties)
  IsTellable (On number sign object) = (number < 2 ^ 64) × (is_live dir.objects object ≡ true)

  abbrev pub IsRowOf : RowValue → Type 0
  IsRowOf row = (is_live dir.objects row.object ≡ true) × (length row.set ≤ length parties)

  members_tell : (set : List Bool) (number place : ℕ) (facts : List Fact) → number < 2 ^ 64
      → place + length set ≤ length parties → AllByRecursion IsTellable facts
      → AllByRecursion IsTellable (members_from number place set ++ facts)
  unfolding members_from
  members_tell [] number place facts small few tell = tell
  members_tell (true ∷ set) number place facts small few tell = (
    (small, omega (arith, few)),
    members_tell set number (place + 1) facts small (omega (arith, few)) tell,
  )
  members_tell (false ∷ set) number place facts small few tell =
      members_tell set number (place + 1) facts small (omega (arith, few)) tell

  step : (told : List (List Bool)) (row : RowValue) (rows : List RowValue) (found : Option ℕ)
      → ((place : ℕ) → found ≡ Some place → place < length told) → length told + 1 < 2 ^ 64 → IsRowOf row
      → AllByRecursion IsTellable (facts_from told rows)
      → AllByRecursion IsTellable (facts_from (told ++ row.set ∷ []) rows)
      → AllByRecursion IsTellable (option_map_or
      (λ (place : ℕ). On (place + 1) row.sign row.object ∷ facts_from told rows) found
      (members_from (length told + 1) 0 row.set
      ++ On (length told + 1) row.sign row.object ∷ facts_from (told ++ row.set ∷ []) rows))
  step told row rows None below small is old new =
      members_tell row.set (length told + 1) 0
      (On (length told + 1) row.sign row.object ∷ facts_from (told ++ row.set ∷ []) rows) small (omega (arith, is.1))
      ((small, is.0), new)
  step told row rows (Some place) below small is old new =
      ((omega (arith, below place refl, small), is.0), old)

  from_tell : (rows : List RowValue) (told : List (List Bool)) → length told + length rows < 2 ^ 64
      → AllByRecursion IsRowOf rows → AllByRecursion IsTellable (facts_from told rows)
  unfolding facts_from
  from_tell [] told few each = tt
  from_tell (row ∷ rows) told few each =
      step told row rows (place_in told row.set) (place_below told row.set) (omega (arith, few)) each.0
      (from_tell rows told (omega (arith, few)) each.1)
      (from_tell rows (told ++ row.set ∷ []) (omega (arith, few, longer told row.set)) each.1)

  -- ---- rows

  module _ (tokens : List Token) (question : Question) (same : length tokens ≡ length parties) where
    abbrev row : ℕ → RowValue
    row number = row_at dir parties tokens question number

    row_is : (number : ℕ) → is_live dir.objects number ≡ true → IsRowOf (row number)
    unfolding whole_at
    row_is number live =
        let base = base_at dir tokens question number in
        let whole = whole_at dir tokens question number in
        let long : length whole ≡ length tokens = length-map tokens _ in
        let told : length whole ≡ length (told_set (own_at parties number) base whole)
        = length_told (own_at parties number) base whole (same_length dir tokens question number) in
        (live, omega (arith, long, told, same))

    rows_are : (looked : List ℕ) → AllByRecursion (λ (n : ℕ). is_live dir.objects n ≡ true) looked
        → AllByRecursion IsRowOf (rows_of dir parties tokens question looked)
    rows_are [] live = tt
    rows_are (n ∷ looked) live = by (is_told dir tokens question n) (row_is n live.0) (rows_are looked live.1)
      where
        by : (b : Bool) → IsRowOf (row n) → AllByRecursion IsRowOf (rows_of dir parties tokens question looked)
            → AllByRecursion IsRowOf (map row (if b then n ∷ filter (is_told dir tokens question) looked
            else filter (is_told dir tokens question) looked))
        by true here rest = (here, rest)
        by false here rest = rest

    rows_fewer : (looked : List ℕ) → length (rows_of dir parties tokens question looked) ≤ length looked
    rows_fewer [] = omega arith
    rows_fewer (n ∷ looked) = by (is_told dir tokens question n) (rows_fewer looked)
      where
        by : (b : Bool) → length (rows_of dir parties tokens question looked) ≤ length looked
            → length (map row (if b then n ∷ filter (is_told dir tokens question) looked
            else filter (is_told dir tokens question) looked)) ≤ suc (length looked)
        by true few = omega (arith, few)
        by false few = omega (arith, few)

filtered : (P : ℕ → Type 0) (test : ℕ → Bool) (ns : List ℕ) → AllByRecursion P ns → AllByRecursion P (filter test ns)
filtered P test [] all = tt
filtered P test (n ∷ ns) all = by (test n) all.0 (filtered P test ns all.1)
  where
    by : (b : Bool) → P n → AllByRecursion P (filter test ns)
        → AllByRecursion P (if b then n ∷ filter test ns else filter test ns)
    by true here rest = (here, rest)
    by false here rest = rest

fewer : (test : ℕ → Bool) (ns : List ℕ) → length (filter test ns) ≤ length ns
fewer test [] = omega arith
fewer test (n ∷ ns) = by (test n) (fewer test ns)
  where
    by : (b : Bool) → length (filter test ns) ≤ length ns
        → length (if b then n ∷ filter test ns else filter test ns) ≤ suc (length ns)
    by true few = omega (arith, few)
    by false few = omega (arith, few)

many : (os : List Object) → length (numbers os) ≡ length os
unfolding numbers
many os = length-map os _

pub facts_tell : (dir : Directory) (all parties : List Identity) (tokens : List Token) (lacking : List Identity)
    (question : Question) (base : ℕ) → AreParties dir all parties tokens lacking → length dir.objects < 2 ^ 63
    → AllByRecursion (IsTellable dir parties) (row_facts (rows_below dir parties tokens question base))
facts_tell dir all parties tokens lacking question base are few =
    let looked = filter (goes_with dir base) (numbers dir.objects) in
    let same = same_count dir all parties tokens lacking are in
    let P : ℕ → Type 0 = λ (n : ℕ). is_live dir.objects n ≡ true in
    from_tell dir parties (rows_below dir parties tokens question base) []
    (omega (
      arith,
      few,
      rows_fewer dir parties tokens question same looked,
      fewer (goes_with dir base) (numbers dir.objects),
      many dir.objects,
    ))
    (rows_are dir parties tokens question same looked
    (filtered P (goes_with dir base) (numbers dir.objects) (all_numbers P dir.objects (λ number live. live))))
