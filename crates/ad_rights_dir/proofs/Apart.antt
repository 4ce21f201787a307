-- Rows of objects by rising numbers: each is of another object, and each live object that is told has one.
use Rattle.std.proofs.Common.{◌≡◌, ◌∙◌, ℕ, zero, suc, ◌<◌, ◌≤◌, Bool, true, false, ◌||◌, Option, Some, List, [], ◌∷◌, map}
use Rattle.std.proofs.Common.{inl, inr, is_some, refl, sym, ap, arith}
use Rattle.std.specs.Prelude.{◌==◌, filter, slice_get, if◌then◌else◌, option_map}
use Rattle.std.specs.List.{list_any, AllByRecursion}
use Rattle.std.proofs.lemmas.Bool.{cases_Bool, eqb-true, eq-eqb, ne_eqb, false≢true}
use Rattle.std.proofs.lemmas.Option.{slice_get-map}
use Rattle.ad_dir_model.specs.Object.{Object}
use Rattle.ad_dir_model.specs.Objects.{object_of, is_live, numbers, RiseAbove, Rise}
use Rattle.ad_sets.specs.Told.{RowValue, AreApart}

-- ---- rising numbers

abbrev pub GrowsAbove : ℕ → List ℕ → Type 0
GrowsAbove least [] = Unit {0}
GrowsAbove least (n ∷ ns) = (least < n) × GrowsAbove n ns

abbrev pub has_number : List ℕ → ℕ → Bool
has_number ns number = list_any (λ (n : ℕ). n == number) ns

grows_weaker : (less more : ℕ) (ns : List ℕ) → less ≤ more → GrowsAbove more ns → GrowsAbove less ns
grows_weaker less more [] le grows = tt
grows_weaker less more (n ∷ ns) le grows = (omega (arith, le, grows.0), grows.1)

pub grows_filtered : (test : ℕ → Bool) (least : ℕ) (ns : List ℕ) → GrowsAbove least ns
    → GrowsAbove least (filter test ns)
grows_filtered test least [] grows = tt
grows_filtered test least (n ∷ ns) grows = by (test n) (grows_filtered test n ns grows.1)
  where
    by : (b : Bool) → GrowsAbove n (filter test ns)
        → GrowsAbove least (if b then n ∷ filter test ns else filter test ns)
    by true rest = (grows.0, rest)
    by false rest = grows_weaker least n (filter test ns) (omega (arith, grows.0)) rest

or_true : (b : Bool) → b || true ≡ true
or_true true = refl
or_true false = refl

pub has_filtered : (test : ℕ → Bool) (ns : List ℕ) (number : ℕ) → has_number ns number ≡ true → test number ≡ true
    → has_number (filter test ns) number ≡ true
has_filtered test [] number there is = there
has_filtered test (n ∷ ns) number there is = elim (cases_Bool (n == number)) [
  | inl same ↦
      ap (λ (b : Bool). has_number (if b then n ∷ filter test ns else filter test ns) number)
      (ap test (eqb-true n number same) ∙ is)
      ∙ ap (λ (b : Bool). b || has_number (filter test ns) number) same
  | inr apart ↦
      by (test n) (has_filtered test ns number (sym (ap (λ (b : Bool). b || has_number ns number) apart) ∙ there) is)
]
  where
    by : (b : Bool) → has_number (filter test ns) number ≡ true
        → has_number (if b then n ∷ filter test ns else filter test ns) number ≡ true
    by true rest = ap (λ (b : Bool). (n == number) || b) rest ∙ or_true (n == number)
    by false rest = rest

first_no : (a b : Bool) → a || b ≡ false → a ≡ false
first_no true b is = is
first_no false b is = refl

second_no : (a b : Bool) → a || b ≡ false → b ≡ false
second_no true b is = absurd (false≢true (sym is))
second_no false b is = is

-- who isn't among numbers isn't among those that pass a test
pub none_filtered : (test : ℕ → Bool) (ns : List ℕ) (number : ℕ) → has_number ns number ≡ false
    → has_number (filter test ns) number ≡ false
none_filtered test [] number none = none
none_filtered test (n ∷ ns) number none =
    by (test n) (none_filtered test ns number (second_no (n == number) (has_number ns number) none))
  where
    by : (b : Bool) → has_number (filter test ns) number ≡ false
        → has_number (if b then n ∷ filter test ns else filter test ns) number ≡ false
    by true rest = ap (λ (b : Bool). b || has_number (filter test ns) number)
        (first_no (n == number) (has_number ns number) none) ∙ rest
    by false rest = rest

-- nor is one that doesn't pass it
pub fails_filtered : (test : ℕ → Bool) (ns : List ℕ) (number : ℕ) → test number ≡ false
    → has_number (filter test ns) number ≡ false
fails_filtered test [] number fails = refl
fails_filtered test (n ∷ ns) number fails = by (test n) refl (fails_filtered test ns number fails)
  where
    by : (b : Bool) → test n ≡ b → has_number (filter test ns) number ≡ false
        → has_number (if b then n ∷ filter test ns else filter test ns) number ≡ false
    by true passes rest = ap (λ (b : Bool). b || has_number (filter test ns) number)
        (ne_eqb n number (λ same. false≢true (sym fails ∙ ap test (sym same) ∙ passes))) ∙ rest
    by false passes rest = rest

-- ---- the numbers of objects

pub grow : (least : ℕ) (os : List Object) → RiseAbove least os → GrowsAbove least (numbers os)
unfolding numbers
grow least [] rise = tt
grow least (o ∷ os) rise = (rise.0, grow o.number os rise.1)

pub has_live : (os : List Object) (number : ℕ) → has_number (numbers os) number ≡ is_live os number
unfolding numbers object_of
has_live [] number = refl
has_live (o ∷ os) number = by (o.number == number) (has_live os number)
  where
    by : (b : Bool) → has_number (numbers os) number ≡ is_live os number
        → b || has_number (numbers os) number ≡ is_some (if b then Some o else object_of os number)
    by true rest = refl
    by false rest = rest

-- ---- rows of numbers

module _ (row : ℕ → RowValue) (is : (n : ℕ) → (row n).object ≡ n) where
  apart_above : (least : ℕ) (ns : List ℕ) (number : ℕ) → number ≤ least → GrowsAbove least ns
      → AllByRecursion (λ (other : RowValue). (number == other.object) ≡ false) (map row ns)
  apart_above least [] number le grows = tt
  apart_above least (n ∷ ns) number le grows = (
    ne_eqb number (row n).object (λ same. absurd (omega (arith, le, grows.0, same, is n))),
    apart_above n ns number (omega (arith, le, grows.0)) grows.1,
  )

  pub rows_apart : (least : ℕ) (ns : List ℕ) → GrowsAbove least ns → AreApart (map row ns)
  unfolding AreApart
  rows_apart least [] grows = tt
  rows_apart least (n ∷ ns) grows = (
    apart_above n ns (row n).object (omega (arith, is n)) grows.1,
    rows_apart n ns grows.1,
  )

  pub row_there : (ns : List ℕ) (number : ℕ) → has_number ns number ≡ true
      → (place : ℕ) × (slice_get (map row ns) place ≡ Some (row number))
  row_there [] number there = absurd (false≢true there)
  row_there (n ∷ ns) number there = elim (cases_Bool (n == number)) [
    | inl same ↦ (0, ap (λ (m : ℕ). Some (row m)) (eqb-true n number same))
    | inr apart ↦
        let rest = row_there ns number (sym (ap (λ (b : Bool). b || has_number ns number) apart) ∙ there) in
        (suc rest.0, rest.1)
  ]

  pub rows_of_others : (ns : List ℕ) (number : ℕ) → has_number ns number ≡ false
      → AllByRecursion (λ (r : RowValue). (r.object == number) ≡ false) (map row ns)
  rows_of_others [] number none = tt
  rows_of_others (n ∷ ns) number none = (
    ap (λ (m : ℕ). m == number) (is n) ∙ first_no (n == number) (has_number ns number) none,
    rows_of_others ns number (second_no (n == number) (has_number ns number) none),
  )
