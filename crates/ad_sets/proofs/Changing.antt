-- A set with changes, and by which set and sign it is told.
use Rattle.std.proofs.Common.{◌≡◌, ◌∙◌, ℕ, ◌+◌, ◌<◌, ◌≤◌, inl, inr, Bool, true, false, not, ◌&&◌, ◌||◌, Option, Some, None, List}
use Rattle.std.proofs.Common.{[], ◌∷◌, length, set, get_or, drop, refl, sym, ap, arith}
use Rattle.std.specs.Prelude.{◌==◌, if◌then◌else◌}
use Rattle.std.specs.List.{list_any, AllByRecursion}
use Rattle.std.proofs.Math.Bool.{or-false, and-true}
use Rattle.std.proofs.lemmas.Bool.{cases_eq, cases_lt, cases_Bool, eq-eqb, ne_eqb, false≢true}
use Rattle.std.proofs.lemmas.List.{get_or-set_same, get_or-set_other, set_past, same_lists, length-set}
use Rattle.std.proofs.lemmas.List.{get_or_default, get_or_past, drop_more, drop_all}
use Rattle.std.proofs.lemmas.List.Elements.{recursion_from_All}
use Rattle.ad_sets.specs.declared.told.Sign.{Sign}
use Rattle.ad_sets.specs.declared.told.Sign.TheVariants.{Same, With, Without}
use Rattle.ad_sets.specs.declared.row.Change.{Change}
use Rattle.ad_sets.specs.Told.{stands_in, is_own, signed, told_at, same_set}
use Rattle.ad_sets.specs.Rows.{with_own, is_told_by, sign_of, own_sign, told_set, told_sign, row_of}
use Rattle.ad_sets.specs.Rows.{put_all, differ, is_elsewhere, is_changed, IsChanged}
use Rattle.ad_sets.proofs.Reading.{same_from}
use Rattle.ad_sets.proofs.Keeping.{same_self}

-- sets of one size that have the same at each place are one
pub same_at : (a b : List Bool) → length a ≡ length b → ((place : ℕ) → stands_in a place ≡ stands_in b place) → a ≡ b
same_at a b size same = same_lists a b size (λ k d lt.
    get_or_default a k d false lt ∙ same k
    ∙ sym (get_or_default b k d false (omega (arith, lt, size))))

-- ---- one change

put_here : (base : List Bool) (place member : ℕ) (value : Bool) → place ≡ member → place < length base
    → stands_in (set base place value) member ≡ value
put_here base place member value at lt =
    ap (stands_in (set base place value)) (sym at) ∙ get_or-set_same base place value false lt

put_there : (base : List Bool) (place member : ℕ) (value : Bool) → (place ≡ member → ⊥)
    → stands_in (set base place value) member ≡ stands_in base member
put_there base place member value apart =
    get_or-set_other base place member value false (λ (e : member ≡ place). apart (sym e))

-- ---- all changes

-- after a change the others are still changes to the whole
rest_changed : (base whole : List Bool) (c : Change) (changes : List Change) → length whole ≡ length base
    → stands_in whole c.place ≡ c.value
    → ((member : ℕ) → is_changed (c ∷ changes) member ≡ false → stands_in whole member ≡ stands_in base member)
    → (member : ℕ) → is_changed changes member ≡ false
    → stands_in whole member ≡ stands_in (set base c.place c.value) member
rest_changed base whole c changes size here others member none = elim (cases_eq c.place member) [
  | inl at ↦ elim (cases_lt c.place (length base)) [
    | inl lt ↦ ap (stands_in whole) (sym at) ∙ here ∙ sym (put_here base c.place member c.value at lt)
    | inr past ↦
        get_or_past whole member false (omega (arith, past, at, size))
        ∙ sym (ap (λ (b : List Bool). stands_in b member) (set_past base c.place c.value past)
        ∙ get_or_past base member false (omega (arith, past, at)))
  ]
  | inr apart ↦
      others member (ap (λ (b : Bool). b || is_changed changes member) (ne_eqb c.place member apart) ∙ none)
      ∙ sym (put_there base c.place member c.value apart)
]

put_is : (changes : List Change) (base whole : List Bool) → length whole ≡ length base
    → AllByRecursion (λ (c : Change). stands_in whole c.place ≡ c.value) changes
    → ((member : ℕ) → is_changed changes member ≡ false → stands_in whole member ≡ stands_in base member)
    → put_all base changes ≡ whole
unfolding put_all
put_is [] base whole size all others = sym (same_at whole base size (λ member. others member refl))
put_is (c ∷ changes) base whole size all others =
    put_is changes (set base c.place c.value) whole (size ∙ sym (length-set base c.place c.value)) all.1
    (rest_changed base whole c changes size all.0 others)

pub whole_is : (base : List Bool) (changes : List Change) (whole : List Bool) → IsChanged base changes whole
    → put_all base changes ≡ whole
whole_is base changes whole is =
    put_is changes base whole is.size
    (recursion_from_All (λ (c : Change). stands_in whole c.place ≡ c.value) changes is.there) is.elsewhere

pub put_next : (changes : List Change) (i : ℕ) (d : Change) (base new whole : List Bool) → i < length changes
    → new ≡ set base (get_or changes i d).place (get_or changes i d).value → put_all base (drop i changes) ≡ whole
    → put_all new (drop (i + 1) changes) ≡ whole
unfolding put_all
put_next changes i d base new whole lt new_is was =
    ap (λ (l : List Bool). put_all l (drop (i + 1) changes)) new_is
    ∙ ap (put_all base) (sym (drop_more changes i d lt))
    ∙ was

pub put_end : (changes : List Change) (i : ℕ) (base whole : List Bool) → length changes ≤ i
    → put_all base (drop i changes) ≡ whole → base ≡ whole
unfolding put_all
put_end changes i base whole past was = ap (put_all base) (sym (drop_all i changes past)) ∙ was

-- ---- whether the base tells the whole

same_ends : (a b : Bool) → differ a b ≡ false → a ≡ b
same_ends true true is = refl
same_ends true false is = absurd (false≢true (sym is))
same_ends false true is = absurd (false≢true (sym is))
same_ends false false is = refl

differ_self : (a : Bool) → differ a a ≡ false
differ_self true = refl
differ_self false = refl

-- where no change is elsewhere, another than the object itself has what the base has
others_same : (changes : List Change) (base whole : List Bool) (own : Option ℕ) (member : ℕ)
    → is_own own member ≡ false
    → AllByRecursion (λ (c : Change). stands_in whole c.place ≡ c.value) changes
    → (is_changed changes member ≡ false → stands_in whole member ≡ stands_in base member)
    → list_any (is_elsewhere base own) changes ≡ false
    → stands_in whole member ≡ stands_in base member
others_same [] base whole own member other all others none = others refl
others_same (c ∷ changes) base whole own member other all others none = elim (cases_eq c.place member) [
  | inl at ↦
      let changed : differ (stands_in base member) c.value ≡ false
      = ap (λ (b : Bool). not b && differ (stands_in base member) c.value) (sym other)
      ∙ ap (λ (p : ℕ). not (is_own own p) && differ (stands_in base p) c.value) (sym at)
      ∙ first (is_elsewhere base own c) (list_any (is_elsewhere base own) changes) none in
      ap (stands_in whole) (sym at) ∙ all.0 ∙ sym (same_ends (stands_in base member) c.value changed)
  | inr apart ↦
      others_same changes base whole own member other all.1
      (λ is. others (ap (λ (b : Bool). b || is_changed changes member) (ne_eqb c.place member apart) ∙ is))
      (second (is_elsewhere base own c) (list_any (is_elsewhere base own) changes) none)
]
  where
    first : (a b : Bool) → a || b ≡ false → a ≡ false
    first true b is = is
    first false b is = refl

    second : (a b : Bool) → a || b ≡ false → b ≡ false
    second true b is = absurd (false≢true (sym is))
    second false b is = is

told_yes : (own : Option ℕ) (base whole : List Bool) → length whole ≡ length base
    → ((member : ℕ) → is_own own member ≡ false → stands_in whole member ≡ stands_in base member)
    → with_own own base whole ≡ whole
told_yes None base whole size same = same_at base whole (sym size) (λ member. sym (same member refl))
told_yes (Some own) base whole size same =
    same_at (set base own (stands_in whole own)) whole (length-set base own (stands_in whole own) ∙ sym size)
    (λ member. elim (cases_eq own member) [
      | inl at ↦ elim (cases_lt own (length base)) [
        | inl lt ↦ put_here base own member (stands_in whole own) at lt ∙ ap (stands_in whole) at
        | inr past ↦
            ap (λ (b : List Bool). stands_in b member) (set_past base own (stands_in whole own) past)
            ∙ get_or_past base member false (omega (arith, past, at))
            ∙ sym (get_or_past whole member false (omega (arith, past, at, size)))
      ]
      | inr apart ↦
          put_there base own member (stands_in whole own) apart ∙ sym (same member (ne_eqb own member apart))
    ])

-- a change elsewhere, of which the whole says another than the base
record IsAnother (base whole : List Bool) (own : Option ℕ) : Type 0 where
  place : ℕ
  other : is_own own place ≡ false
  differs : differ (stands_in base place) (stands_in whole place) ≡ true

another_step : (b : Bool) (base whole : List Bool) (own : Option ℕ) (c : Change) (changes : List Change)
    → is_elsewhere base own c ≡ b → stands_in whole c.place ≡ c.value
    → (list_any (is_elsewhere base own) changes ≡ true → IsAnother base whole own)
    → b || list_any (is_elsewhere base own) changes ≡ true → IsAnother base whole own
another_step true base whole own c changes is here others any = record {
  place = c.place;
  other = not_first (is_own own c.place) (differ (stands_in base c.place) c.value) is;
  differs = ap (differ (stands_in base c.place)) here
      ∙ second (is_own own c.place) (differ (stands_in base c.place) c.value) is;
}
  where
    not_first : (a b : Bool) → not a && b ≡ true → a ≡ false
    not_first true b is = absurd (false≢true is)
    not_first false b is = refl

    second : (a b : Bool) → not a && b ≡ true → b ≡ true
    second true b is = absurd (false≢true is)
    second false b is = is
another_step false base whole own c changes is here others any = others any

another : (changes : List Change) (base whole : List Bool) (own : Option ℕ)
    → AllByRecursion (λ (c : Change). stands_in whole c.place ≡ c.value) changes
    → list_any (is_elsewhere base own) changes ≡ true → IsAnother base whole own
another [] base whole own all any = absurd (false≢true any)
another (c ∷ changes) base whole own all any =
    another_step (is_elsewhere base own c) base whole own c changes refl all.0
    (λ others. another changes base whole own all.1 others) any

-- elsewhere the base, with the object's own put in, has what the base has
own_there : (own : Option ℕ) (base whole : List Bool) (place : ℕ) → is_own own place ≡ false
    → stands_in (with_own own base whole) place ≡ stands_in base place
own_there None base whole place other = refl
own_there (Some own) base whole place other =
    put_there base own place (stands_in whole own)
    (λ (e : own ≡ place). false≢true (sym other ∙ eq-eqb own place e))

told_no : (own : Option ℕ) (base whole : List Bool) → IsAnother base whole own → is_told_by own base whole ≡ false
told_no own base whole is = elim (cases_Bool (is_told_by own base whole)) [
  | inr not_it ↦ not_it
  | inl yes_it ↦
      let same : stands_in base is.place ≡ stands_in whole is.place
      = sym (own_there own base whole is.place is.other)
      ∙ ap (λ (l : List Bool). stands_in l is.place) (same_from (with_own own base whole) whole yes_it) in
      absurd (false≢true (sym (differ_self (stands_in base is.place))
      ∙ ap (differ (stands_in base is.place)) same ∙ is.differs))
]

-- ---- what is told

pub record IsToldBy (own : Option ℕ) (base whole : List Bool) (told : List Bool) (sign : Sign) : Type 0 where
  pub set_is : told_set own base whole ≡ told
  pub sign_is : told_sign own base whole ≡ sign

by_base : (own : Option ℕ) (base whole : List Bool) → is_told_by own base whole ≡ true
    → IsToldBy own base whole base (own_sign own base whole)
unfolding told_set told_sign
by_base own base whole is = record {
  set_is = ap (λ (b : Bool). if b then base else whole) is;
  sign_is = ap (λ (b : Bool). if b then own_sign own base whole else Same) is;
}

by_whole : (own : Option ℕ) (base whole : List Bool) → is_told_by own base whole ≡ false
    → IsToldBy own base whole whole Same
unfolding told_set told_sign
by_whole own base whole is = record {
  set_is = ap (λ (b : Bool). if b then base else whole) is;
  sign_is = ap (λ (b : Bool). if b then own_sign own base whole else Same) is;
}

-- no change is elsewhere: the base tells it
pub kept_is : (own : Option ℕ) (base whole : List Bool) (changes : List Change) → IsChanged base changes whole
    → list_any (is_elsewhere base own) changes ≡ false
    → IsToldBy own base whole base (own_sign own base whole)
kept_is own base whole changes is none =
    let all = recursion_from_All (λ (c : Change). stands_in whole c.place ≡ c.value) changes is.there in
    let same = told_yes own base whole is.size
    (λ member other. others_same changes base whole own member other all (is.elsewhere member) none) in
    by_base own base whole (ap (λ (l : List Bool). same_set l whole) same ∙ same_self whole)

pub changed_is : (own : Option ℕ) (base whole : List Bool) (changes : List Change) → IsChanged base changes whole
    → list_any (is_elsewhere base own) changes ≡ true → IsToldBy own base whole whole Same
changed_is own base whole changes is any =
    let all = recursion_from_All (λ (c : Change). stands_in whole c.place ≡ c.value) changes is.there in
    by_whole own base whole (told_no own base whole (another changes base whole own all any))

-- ---- a row tells the whole

own_told : (b w : Bool) (own member : ℕ) → (own == member) ≡ true → signed (sign_of b w) (Some own) member b ≡ w
own_told true true own member at = refl
own_told false false own member at = refl
own_told false true own member at = at
own_told true false own member at = ap not at

other_told : (s : Sign) (own member : ℕ) (b : Bool) → (own == member) ≡ false → signed s (Some own) member b ≡ b
other_told Same own member b apart = refl
other_told With own member b apart = ap (λ (x : Bool). b || x) apart ∙ or-false b
other_told Without own member b apart = ap (λ (x : Bool). b && not x) apart ∙ and-true b

base_tells : (own : Option ℕ) (base whole : List Bool) (member : ℕ) → with_own own base whole ≡ whole
    → signed (own_sign own base whole) own member (stands_in base member) ≡ stands_in whole member
base_tells None base whole member same = ap (λ (l : List Bool). stands_in l member) same
base_tells (Some own) base whole member same = elim (cases_eq own member) [
  | inl at ↦
      ap (λ (m : ℕ). signed (sign_of (stands_in base own) (stands_in whole own)) (Some own) member (stands_in base m))
      (sym at)
      ∙ own_told (stands_in base own) (stands_in whole own) own member (eq-eqb own member at)
      ∙ ap (stands_in whole) at
  | inr apart ↦
      other_told (sign_of (stands_in base own) (stands_in whole own)) own member (stands_in base member)
      (ne_eqb own member apart)
      ∙ sym (put_there base own member (stands_in whole own) apart)
      ∙ ap (λ (l : List Bool). stands_in l member) same
]

told_is : (own : Option ℕ) (base whole told : List Bool) (sign : Sign) (member : ℕ)
    → IsToldBy own base whole told sign
    → signed (told_sign own base whole) own member (stands_in (told_set own base whole) member)
    ≡ signed sign own member (stands_in told member)
told_is own base whole told sign member is =
    ap (λ (s : Sign). signed s own member (stands_in (told_set own base whole) member)) is.sign_is
    ∙ ap (λ (l : List Bool). signed sign own member (stands_in l member)) is.set_is

pub row_tells : (object member : ℕ) (own : Option ℕ) (base whole : List Bool)
    → told_at (row_of object own base whole) member ≡ stands_in whole member
row_tells object member own base whole = elim (cases_Bool (is_told_by own base whole)) [
  | inl is ↦
      told_is own base whole base (own_sign own base whole) member (by_base own base whole is)
      ∙ base_tells own base whole member (same_from (with_own own base whole) whole is)
  | inr is ↦ told_is own base whole whole Same member (by_whole own base whole is)
]

-- the first change of the object's own place says what the whole has there
pub own_value_is : (base whole : List Bool) (changes : List Change) (own : ℕ) → IsChanged base changes whole
    → is_changed changes own ≡ false → stands_in base own ≡ stands_in whole own
own_value_is base whole changes own is none = sym (is.elsewhere own none)
