-- The values of an attribute, taken out and put back.
use Rattle.std.proofs.Common.{◌≡◌, ℕ, zero, suc, ◌+◌, ◌<◌, ◌≤◌, Bool, true, false, not, List, [], ◌∷◌, ◌++◌, length}
use Rattle.std.proofs.Common.{map, get_or}
use Rattle.std.proofs.Common.{Some, None, inl, inr, refl, sym, subst, ap, ◌∙◌, arith}
use Rattle.std.specs.Prelude.{nat_eq, nat_lt, cond, filter, position, insert, remove}
use Rattle.std.specs.List.{prefix_len}
use Rattle.std.proofs.lemmas.Bool.{cases_Bool, eqb-true, ne_eqb, lt-ltb, ltb-true, ltb-false}
use Rattle.std.proofs.lemmas.Option.{none-some, same_Some}
use Rattle.ad_schema.specs.declared.info.AttrId.{AttrId}
use Rattle.ad_dir_objects.specs.declared.object.Stored.{Stored as StoredIn}
use Rattle.ad_dir_objects.specs.Seen.{stored_seen, held_seen}
use Rattle.ad_dir_model.specs.Object.{Stored, Held, stored_in}
use Rattle.ad_dir_model.specs.Changes.{with_values}
use Rattle.ad_dir_model.specs.Soundness.{AttrsRiseFrom}
use Rattle.ad_change_values.specs.Values.{is_among}
use Rattle.ad_change_values.specs.Items.{without, with_these, taken_from}
use Rattle.ad_change_values.specs.Judging.{HoldsNone}

abbrev pub HeldIn : Type 0
HeldIn = AttrId × List StoredIn

-- ---- places

pub placed : (n m place : ℕ) → cond (nat_lt n m) (Some n) None ≡ Some place → (n < m) × (n ≡ place)
placed n m place e = elim (cases_Bool (nat_lt n m)) [
  | inl less ↦ (ltb-true n m less, same_Some n place (rw less at e))
  | inr more ↦ absurd (none-some place (rw more at e))
]

pub not_placed : (n m : ℕ) → cond (nat_lt n m) (Some n) None ≡ None → m ≤ n
not_placed n m e = elim (cases_Bool (nat_lt n m)) [
  | inl less ↦ let some : Some n ≡ None = rw less at e in absurd cc
  | inr more ↦ ltb-false n m more
]

-- ---- without an attribute

pub without_above : (attr k : ℕ) (vs : List Held) → AttrsRiseFrom k vs → attr < k → without attr vs ≡ vs
unfolding without
without_above attr k [] rise lt = refl
without_above attr k (h ∷ hs) rise lt =
    let least : k ≤ h.attr = rise.0 in
    let differ : nat_eq h.attr attr ≡ false = ne_eqb h.attr attr (λ e. omega (arith, least, lt, e)) in
    rw differ (ap (λ (xs : List Held). h ∷ xs) (without_above attr (suc h.attr) hs rise.1 (omega (arith, least, lt))))

pub none_without : (attr : ℕ) (vs : List Held) → HoldsNone attr (without attr vs)
unfolding without
none_without attr [] = tt
none_without attr (h ∷ hs) =
    elim (cases_Bool (nat_eq h.attr attr)) [
      | inl here ↦ rw here (none_without attr hs)
      | inr other ↦ rw other (other, none_without attr hs)
    ]

pub without_none : (attr : ℕ) (vs : List Held) → HoldsNone attr vs → without attr vs ≡ vs
unfolding without
without_none attr [] none = refl
without_none attr (h ∷ hs) none = let differ : nat_eq h.attr attr ≡ false = none.0
    in rw differ (ap (λ (xs : List Held). h ∷ xs) (without_none attr hs none.1))

-- ---- taken out

abbrev differs : ℕ → HeldIn → Bool
differs attr one = not (nat_eq one.0.0 attr)

abbrev Taken : ℕ → List HeldIn → ℕ → HeldIn → Type 0
Taken attr xs n one =
    (map held_seen (remove xs n) ≡ without attr (map held_seen xs))
    × (map stored_seen one.1 ≡ stored_in (map held_seen xs) attr)

prefix_other : (attr : ℕ) (x : HeldIn) (xs : List HeldIn) → nat_eq x.0.0 attr ≡ false
    → prefix_len (differs attr) (x ∷ xs) ≡ suc (prefix_len (differs attr) xs)
prefix_other attr x xs other =
    ap (λ (b : Bool). cond (not b) (1 + prefix_len (differs attr) xs) 0) other
    ∙ (let next : 1 + prefix_len (differs attr) xs ≡ suc (prefix_len (differs attr) xs) = omega arith in next)

prefix_here : (attr : ℕ) (x : HeldIn) (xs : List HeldIn) → nat_eq x.0.0 attr ≡ true → prefix_len (differs attr)
    (x ∷ xs) ≡ 0
prefix_here attr x xs here = ap (λ (b : Bool). cond (not b) (1 + prefix_len (differs attr) xs) 0) here

taken_at : (attr k : ℕ) (xs : List HeldIn) (n : ℕ) (one : HeldIn) → AttrsRiseFrom k (map held_seen xs)
    → prefix_len (differs attr) xs ≡ n
    → n < length xs → one ≡ get_or xs n one → Taken attr xs n one
unfolding without stored_in
taken_at attr k [] n one rise at lt is = absurd (omega (arith, lt))
taken_at attr k (x ∷ xs) zero one rise at lt is = elim (cases_Bool (nat_eq x.0.0 attr)) [
  | inl here ↦
      let same : x.0.0 ≡ attr = eqb-true x.0.0 attr here in
      rw here (
        sym (without_above attr (suc x.0.0) (map held_seen xs) rise.1 (omega (arith, same))),
        ap
            (λ (h : HeldIn). map stored_seen h.1) is,
      )
  | inr other ↦ let next = prefix_other attr x xs other in absurd (omega (arith, at, next))
]
taken_at attr k (x ∷ xs) (suc n) one rise at lt is = elim (cases_Bool (nat_eq x.0.0 attr)) [
  | inl here ↦ let none = prefix_here attr x xs here in absurd (omega (arith, at, none))
  | inr other ↦
      let next = prefix_other attr x xs other in
      let rest : Taken attr xs n one = taken_at attr (suc x.0.0) xs n one rise.1 (omega (arith, at, next))
      (omega (arith, lt)) is in
      rw other (ap (λ (hs : List Held). held_seen x ∷ hs) rest.0, rest.1)
]

pub taken : (attr : ℕ) (xs : List HeldIn) (place : ℕ) (one : HeldIn) → AttrsRiseFrom 0 (map held_seen xs)
    → position (λ (x : HeldIn). nat_eq x.0.0 attr) xs ≡ Some place → one ≡ get_or xs place one → Taken attr xs place one
taken attr xs place one rise at is =
    let p = placed (prefix_len (differs attr) xs) (length xs) place at in
    taken_at attr 0 xs place one rise p.1 (subst (λ (n : ℕ). n < length xs) p.1 p.0) is

not_there_at : (attr : ℕ) (xs : List HeldIn) → length xs ≤ prefix_len (differs attr) xs
    → (without attr (map held_seen xs) ≡ map held_seen xs) × (stored_in (map held_seen xs) attr ≡ [])
unfolding without stored_in
not_there_at attr [] le = (refl, refl)
not_there_at attr (x ∷ xs) le = elim (cases_Bool (nat_eq x.0.0 attr)) [
  | inl here ↦ let none = prefix_here attr x xs here in absurd (omega (arith, le, none))
  | inr other ↦
      let next = prefix_other attr x xs other in
      let rest = not_there_at attr xs (omega (arith, le, next)) in
      rw other (ap (λ (hs : List Held). held_seen x ∷ hs) rest.0, rest.1)
]

pub not_there : (attr : ℕ) (xs : List HeldIn) → position (λ (x : HeldIn). nat_eq x.0.0 attr) xs ≡ None
    → (without attr (map held_seen xs) ≡ map held_seen xs) × (stored_in (map held_seen xs) attr ≡ [])
not_there attr xs at = not_there_at attr xs (not_placed (prefix_len (differs attr) xs) (length xs) at)

-- ---- put

abbrev not_above : ℕ → HeldIn → Bool
not_above attr one = not (nat_lt attr one.0.0)

above_later : (attr : ℕ) (x : HeldIn) (xs : List HeldIn) → nat_lt attr x.0.0 ≡ false
    → prefix_len (not_above attr) (x ∷ xs) ≡ suc (prefix_len (not_above attr) xs)
above_later attr x xs later =
    ap (λ (b : Bool). cond (not b) (1 + prefix_len (not_above attr) xs) 0) later
    ∙ (let next : 1 + prefix_len (not_above attr) xs ≡ suc (prefix_len (not_above attr) xs) = omega arith in next)

above_here : (attr : ℕ) (x : HeldIn) (xs : List HeldIn) → nat_lt attr x.0.0 ≡ true → prefix_len (not_above attr)
    (x ∷ xs) ≡ 0
above_here attr x xs here = ap (λ (b : Bool). cond (not b) (1 + prefix_len (not_above attr) xs) 0) here

put_at : (id : AttrId) (xs : List HeldIn) (stored : List StoredIn) (n : ℕ) → HoldsNone id.0 (map held_seen xs)
    → prefix_len (not_above id.0) xs ≡ n → n < length xs
    → map held_seen (insert xs n (id, stored)) ≡ with_values id.0 (map stored_seen stored) (map held_seen xs)
unfolding with_values
put_at id [] stored n none at lt = absurd (omega (arith, lt))
put_at id (x ∷ xs) stored zero none at lt = elim (cases_Bool (nat_lt id.0 x.0.0)) [
  | inl here ↦ let differ : nat_eq x.0.0 id.0 ≡ false = none.0 in rw (differ, here) refl
  | inr later ↦ let next = above_later id.0 x xs later in absurd (omega (arith, at, next))
]
put_at id (x ∷ xs) stored (suc n) none at lt = elim (cases_Bool (nat_lt id.0 x.0.0)) [
  | inl here ↦ let zero_here = above_here id.0 x xs here in absurd (omega (arith, at, zero_here))
  | inr later ↦
      let differ : nat_eq x.0.0 id.0 ≡ false = none.0 in
      let next = above_later id.0 x xs later in
      rw (differ, later) (ap (λ (hs : List Held). held_seen x ∷ hs)
      (put_at id xs stored n none.1 (omega (arith, at, next)) (omega (arith, lt))))
]

put_last : (id : AttrId) (xs : List HeldIn) (stored : List StoredIn) → HoldsNone id.0 (map held_seen xs)
    → length xs ≤ prefix_len (not_above id.0) xs
    → map held_seen (xs ++ (id, stored) ∷ []) ≡ with_values id.0 (map stored_seen stored) (map held_seen xs)
unfolding with_values
put_last id [] stored none le = refl
put_last id (x ∷ xs) stored none le = elim (cases_Bool (nat_lt id.0 x.0.0)) [
  | inl here ↦ let zero_here = above_here id.0 x xs here in absurd (omega (arith, le, zero_here))
  | inr later ↦
      let differ : nat_eq x.0.0 id.0 ≡ false = none.0 in
      let next = above_later id.0 x xs later in
      rw (differ, later) (ap (λ (hs : List Held). held_seen x ∷ hs)
      (put_last id xs stored none.1 (omega (arith, le, next))))
]

-- with some values, these are put
some_these : (attr : ℕ) (stored : List StoredIn) (vs : List Held) → (length stored ≡ 0 → ⊥)
    → with_these attr (map stored_seen stored) vs ≡ with_values attr (map stored_seen stored) vs
some_these attr [] vs some = absurd (some refl)
some_these attr (s ∷ ss) vs some = refl

pub put_before : (id : AttrId) (xs : List HeldIn) (stored : List StoredIn) (place : ℕ)
    → HoldsNone id.0 (map held_seen xs)
    → (length stored ≡ 0 → ⊥) → position (λ (x : HeldIn). nat_lt id.0 x.0.0) xs ≡ Some place
    → map held_seen (insert xs place (id, stored)) ≡ with_these id.0 (map stored_seen stored) (map held_seen xs)
put_before id xs stored place none some at =
    let p = placed (prefix_len (not_above id.0) xs) (length xs) place at in
    put_at id xs stored place none p.1 (subst (λ (n : ℕ). n < length xs) p.1 p.0)
    ∙ sym (some_these id.0 stored (map held_seen xs) some)

pub put_behind : (id : AttrId) (xs : List HeldIn) (stored : List StoredIn) → HoldsNone id.0 (map held_seen xs)
    → (length stored ≡ 0 → ⊥) → position (λ (x : HeldIn). nat_lt id.0 x.0.0) xs ≡ None
    → map held_seen (xs ++ (id, stored) ∷ []) ≡ with_these id.0 (map stored_seen stored) (map held_seen xs)
put_behind id xs stored none some at =
    put_last id xs stored none (not_placed (prefix_len (not_above id.0) xs) (length xs) at)
    ∙ sym (some_these id.0 stored (map held_seen xs) some)

pub put_none : (id : AttrId) (xs : List HeldIn) (stored : List StoredIn) → HoldsNone id.0 (map held_seen xs)
    → length stored ≡ 0
    → map held_seen xs ≡ with_these id.0 (map stored_seen stored) (map held_seen xs)
put_none id xs [] none empty = sym (without_none id.0 (map held_seen xs) none)
put_none id xs (s ∷ ss) none empty = absurd (omega (arith, empty))

-- ---- in the place of what was taken out

behind_all : (attr k : ℕ) (new : List Stored) (vs : List Held) → AttrsRiseFrom k vs → attr < k
    → with_values attr new vs ≡ record { attr = attr; values = new } ∷ vs
unfolding with_values
behind_all attr k new [] rise lt = refl
behind_all attr k new (h ∷ hs) rise lt =
    let least : k ≤ h.attr = rise.0 in
    let differ : nat_eq h.attr attr ≡ false = ne_eqb h.attr attr (λ e. omega (arith, least, lt, e)) in
    let less : nat_lt attr h.attr ≡ true = lt-ltb attr h.attr (omega (arith, least, lt)) in
    rw (differ, less) refl

with_again : (attr k : ℕ) (new : List Stored) (vs : List Held) → AttrsRiseFrom k vs
    → with_values attr new (without attr vs) ≡ with_values attr new vs
unfolding with_values without
with_again attr k new [] rise = refl
with_again attr k new (h ∷ hs) rise = elim (cases_Bool (nat_eq h.attr attr)) [
  | inl here ↦
      let same : h.attr ≡ attr = eqb-true h.attr attr here in
      let rest : without attr hs ≡ hs = without_above attr (suc h.attr) hs rise.1 (omega (arith, same)) in
      rw here (ap (with_values attr new) rest ∙ behind_all attr (suc h.attr) new hs rise.1 (omega (arith, same)))
  | inr other ↦ elim (cases_Bool (nat_lt attr h.attr)) [
    | inl less ↦
        let below : attr < h.attr = ltb-true attr h.attr less in
        let rest : without attr hs ≡ hs = without_above attr (suc h.attr) hs rise.1 (omega (arith, below)) in
        rw (other, other, less) (ap (λ (xs : List Held). record { attr = attr; values = new } ∷ h ∷ xs) rest)
    | inr more ↦ rw (other, other, more) (ap (λ (xs : List Held). h ∷ xs) (with_again attr (suc h.attr) new hs rise.1))
  ]
]

pub these_again : (attr : ℕ) (new : List Stored) (vs : List Held) → AttrsRiseFrom 0 vs
    → with_these attr new (without attr vs) ≡ with_these attr new vs
these_again attr [] vs rise = without_none attr (without attr vs) (none_without attr vs)
these_again attr (first ∷ others) vs rise = with_again attr 0 (first ∷ others) vs rise

-- ---- values that are taken away

pub kept_of : (p : Stored → Bool) (xs : List StoredIn)
    → map stored_seen (filter (λ (x : StoredIn). p (stored_seen x)) xs) ≡ filter p (map stored_seen xs)
kept_of p [] = refl
kept_of p (x ∷ xs) = elim (cases_Bool (p (stored_seen x))) [
  | inl stays ↦ rw stays (ap (λ (ss : List Stored). stored_seen x ∷ ss) (kept_of p xs))
  | inr goes ↦ rw goes (kept_of p xs)
]

some_taken : (gone : List StoredIn) (values : List Stored) → (length gone ≡ 0 → ⊥)
    → taken_from values (map stored_seen gone) ≡ filter (λ value. not (is_among (map stored_seen gone) value)) values
some_taken [] values some = absurd (some refl)
some_taken (g ∷ gs) values some = refl

pub taken_some : (gone stored left : List StoredIn) → (length gone ≡ 0 → ⊥)
    → left ≡ filter (λ (x : StoredIn). not (is_among (map stored_seen gone) (stored_seen x))) stored
    → map stored_seen left ≡ taken_from (map stored_seen stored) (map stored_seen gone)
taken_some gone stored left some is =
    ap (map stored_seen) is ∙ kept_of (λ value. not (is_among (map stored_seen gone) value)) stored
    ∙ sym (some_taken gone (map stored_seen stored) some)

pub taken_all : (gone stored left : List StoredIn) → length gone ≡ 0 → left ≡ [] → map stored_seen left
    ≡ taken_from (map stored_seen stored) (map stored_seen gone)
taken_all [] stored left empty is = ap (map stored_seen) is
taken_all (g ∷ gs) stored left empty is = absurd (omega (arith, empty))

rise_weaken : (m k : ℕ) (values : List Held) → AttrsRiseFrom m values → k ≤ m → AttrsRiseFrom k values
rise_weaken m k [] rise le = tt
rise_weaken m k (h ∷ hs) rise le = let least : m ≤ h.attr = rise.0 in (omega arith, rise.1)

pub rise_without : (attr m : ℕ) (values : List Held) → AttrsRiseFrom m values → AttrsRiseFrom m (without attr values)
unfolding without
rise_without attr m [] rise = tt
rise_without attr m (h ∷ hs) rise =
    elim (cases_Bool (nat_eq h.attr attr)) [
      | inl here ↦ let least : m ≤ h.attr = rise.0 in rw here
          (rise_weaken (suc h.attr) m (without attr hs) (rise_without attr (suc h.attr) hs rise.1) (omega arith))
      | inr other ↦ rw other (rise.0, rise_without attr (suc h.attr) hs rise.1)
    ]
