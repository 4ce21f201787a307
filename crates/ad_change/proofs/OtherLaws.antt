-- The weight of all objects but one.
use Rattle.std.proofs.Common.{◌≡◌, ℕ, ◌+◌, ◌-◌, ◌<◌, ◌≤◌, true, false, List, [], ◌∷◌, length, Option, Some, None, inl}
use Rattle.std.proofs.Common.{inr, refl, sym, subst, ap, ◌∙◌, arith}
use Rattle.std.specs.Prelude.{nat_eq, nat_lt, nat_le, filter, is_some}
use Rattle.std.proofs.lemmas.Bool.{cases_Bool, eqb-true, eq-eqb, ne_eqb, ltb-true, ltb-false, lt-ltb, le-ltb}
use Rattle.std.proofs.lemmas.Bool.{leb-true, leb-false, le-leb, lt-leb}
use Rattle.std.proofs.lemmas.Option.{none-some, same_Some}
use Rattle.ad_schema.specs.declared.line.SchemaRecord.{SchemaRecord}
use Rattle.ad_dir.specs.Listing.{next_number}
use Rattle.ad_dir_model.specs.Limits.{max_weight}
use Rattle.ad_dir_model.specs.Object.{Object}
use Rattle.ad_dir_model.specs.Objects.{RiseAbove, object_of, object_at, is_live, put}
use Rattle.ad_dir_model.specs.Directory.{Directory}
use Rattle.ad_dir_model.specs.Weight.{object_weight, objects_weight, weight}
use Rattle.ad_dir_model.specs.Soundness.{IsSound}
use Rattle.ad_dir_objects.specs.Left.{left_of}
use Rattle.ad_change.specs.Tree.{fits_weight_limit}
use Rattle.ad_change.specs.Others.{other_weight, others_weight}

-- ---- from a number on

abbrev pub behind : ℕ → List Object → List Object
behind above os = filter (λ (o : Object). nat_lt above o.number) os

pub all_behind : (m above : ℕ) (os : List Object) → RiseAbove m os → above ≤ m → behind above os ≡ os
all_behind m above [] rise le = refl
all_behind m above (x ∷ xs) rise le =
    let least : m < x.number = rise.0 in
    let here : nat_lt above x.number ≡ true = lt-ltb above x.number (omega (arith, least, le)) in
    rw here (ap (λ (os : List Object). x ∷ os) (all_behind x.number above xs rise.1 (omega (arith, least, le))))

-- the next number is of the first object that is left
pub record CutsAt (os : List Object) (above n : ℕ) : Type 0 where
  pub less : above < n
  pub live : is_live os n ≡ true
  pub cut : behind above os ≡ object_at os n ∷ behind n os

pub next_at : (m above n : ℕ) (os : List Object) → RiseAbove m os → next_number os above ≡ Some n → CutsAt os above n
unfolding next_number object_of object_at
next_at m above n [] rise is = absurd (none-some n is)
next_at m above n (x ∷ xs) rise is = elim (cases_Bool (nat_lt above x.number)) [
  | inl here ↦
      let same : x.number ≡ n = same_Some x.number n (rw here at is) in
      let itself : nat_eq x.number x.number ≡ true = eq-eqb x.number x.number refl in
      let not_less : nat_lt x.number x.number ≡ false = le-ltb x.number x.number (omega arith) in
      let below : above < x.number = ltb-true above x.number here in
      let rest : behind above xs ≡ behind x.number xs =
      all_behind x.number above xs rise.1 (omega (arith, below))
      ∙ sym (all_behind x.number x.number xs rise.1 (omega arith)) in
      subst (CutsAt (x ∷ xs) above) same (record {
        less = below;
        live = rw itself refl;
        cut = rw (here, itself, not_less) (ap (λ (os : List Object). x ∷ os) rest);
      })
  | inr later ↦
      let least : x.number ≤ above = ltb-false above x.number later in
      let next : CutsAt xs above n = next_at x.number above n xs rise.1 (rw later at is) in
      let less : above < n = next.less in
      let differ : nat_eq x.number n ≡ false = ne_eqb x.number n (λ e. omega (arith, least, less, e)) in
      let not_less : nat_lt n x.number ≡ false = le-ltb n x.number (omega (arith, least, less)) in
      record { less = less; live = rw differ next.live; cut = rw (later, differ, not_less) next.cut }
]

pub none_behind : (above : ℕ) (os : List Object) → next_number os above ≡ None → behind above os ≡ []
unfolding next_number
none_behind above [] is = refl
none_behind above (x ∷ xs) is = elim (cases_Bool (nat_lt above x.number)) [
  | inl here ↦ let some : Some x.number ≡ None = rw here at is in absurd cc
  | inr later ↦ rw later (none_behind above xs (rw later at is))
]

-- what is left after the next one
pub others_next : (schema : List SchemaRecord) (but : ℕ) (os : List Object) (above n : ℕ) → CutsAt os above n
    → others_weight schema but (behind above os) ≡ other_weight schema but (object_at os n) + others_weight schema but
    (behind n os)
unfolding others_weight
others_next schema but os above n next = ap (others_weight schema but) next.cut

pub others_end : (schema : List SchemaRecord) (but above : ℕ) (os : List Object) → next_number os above ≡ None
    → others_weight schema but (behind above os) ≡ 0
unfolding others_weight
others_end schema but above os is = ap (others_weight schema but) (none_behind above os is)

pub fewer_behind : (os : List Object) (above n : ℕ) → CutsAt os above n → length (behind n os)
    < length (behind above os)
fewer_behind os above n next =
    let longer : length (behind above os) ≡ length (object_at os n ∷ behind n os) = ap length next.cut in
    omega (arith, longer)

pub is_other : (schema : List SchemaRecord) (but : ℕ) (o : Object) → (o.number ≡ but → ⊥) → other_weight schema but o
    ≡ object_weight schema o
unfolding other_weight
is_other schema but o apart = rw (ne_eqb o.number but apart) refl

pub is_the_one : (schema : List SchemaRecord) (but : ℕ) (o : Object) → o.number ≡ but → other_weight schema but o ≡ 0
unfolding other_weight
is_the_one schema but o same = rw (eq-eqb o.number but same) refl

-- ---- the one and the others

none_apart : (schema : List SchemaRecord) (m but : ℕ) (os : List Object) → RiseAbove m os → but ≤ m
    → others_weight schema but os ≡ objects_weight schema os
unfolding others_weight objects_weight
none_apart schema m but [] rise le = refl
none_apart schema m but (x ∷ xs) rise le =
    let least : m < x.number = rise.0 in
    let one = is_other schema but x (λ e. omega (arith, least, le, e)) in
    let rest = none_apart schema x.number but xs rise.1 (omega (arith, least, le)) in
    rw (one, rest) refl

one_apart : (schema : List SchemaRecord) (m : ℕ) (os : List Object) (n : ℕ) (o : Object) → RiseAbove m os
    → object_of os n ≡ Some o
    → objects_weight schema os ≡ object_weight schema o + others_weight schema n os
unfolding others_weight objects_weight object_of
one_apart schema m [] n o rise is = absurd (none-some o is)
one_apart schema m (x ∷ xs) n o rise is = elim (cases_Bool (nat_eq x.number n)) [
  | inl here ↦
      let itself : x ≡ o = same_Some x o (rw here at is) in
      let same : x.number ≡ n = eqb-true x.number n here in
      let none = is_the_one schema n x same in
      let rest = none_apart schema x.number n xs rise.1 (omega (arith, same)) in
      let weighs : object_weight schema x ≡ object_weight schema o = ap (object_weight schema) itself in
      omega (arith, none, rest, weighs)
  | inr other ↦
      let apart = is_other schema n x (λ e. let yes' : nat_eq x.number n ≡ true = eq-eqb x.number n e
      in absurd (both n x other yes')) in
      let rest = one_apart schema x.number xs n o rise.1 (rw other at is) in
      omega (arith, apart, rest)
]
  where
    both : (k : ℕ) (y : Object) → nat_eq y.number k ≡ false → nat_eq y.number k ≡ true → ⊥
    both k y f t = let e : false ≡ true = sym f ∙ t in cc

put_apart : (schema : List SchemaRecord) (m : ℕ) (o : Object) (os : List Object) → RiseAbove m os
    → objects_weight schema (put o os) ≡ object_weight schema o + others_weight schema o.number os
unfolding others_weight objects_weight put
put_apart schema m o [] rise = refl
put_apart schema m o (x ∷ xs) rise = elim (cases_Bool (nat_eq x.number o.number)) [
  | inl here ↦
      let same : x.number ≡ o.number = eqb-true x.number o.number here in
      let none = is_the_one schema o.number x same in
      let rest = none_apart schema x.number o.number xs rise.1 (omega (arith, same)) in
      rw here (omega (arith, none, rest))
  | inr other ↦
      let differ : x.number ≡ o.number → ⊥ = λ e. let yes' : nat_eq x.number o.number ≡ true
      = eq-eqb x.number o.number e in
      (let e' : false ≡ true = sym other ∙ yes' in cc) in
      let apart = is_other schema o.number x differ in
      elim (cases_Bool (nat_lt o.number x.number)) [
        | inl less ↦
            let below : o.number < x.number = ltb-true o.number x.number less in
            let rest = none_apart schema x.number o.number xs rise.1 (omega (arith, below)) in
            rw (other, less) (omega (arith, apart, rest))
        | inr more ↦
            let rest = put_apart schema x.number o xs rise.1 in
            rw (other, more) (omega (arith, apart, rest))
      ]
]

-- ---- what is left of the largest weight

left_is : (max weight left : ℕ) → left_of max weight ≡ Some left → (weight ≤ max) × (left + weight ≡ max)
left_is max weight left e = elim (cases_Bool (nat_le weight max)) [
  | inl enough ↦
      let le : weight ≤ max = leb-true weight max enough in
      let is : max - weight ≡ left = same_Some (max - weight) left (rw enough at e) in
      (le, omega (arith, le, is))
  | inr heavy ↦ absurd (none-some left (rw heavy at e))
]

no_left : (max weight : ℕ) → left_of max weight ≡ None → max < weight
no_left max weight e = elim (cases_Bool (nat_le weight max)) [
  | inl enough ↦ let some : Some (max - weight) ≡ None = rw enough at e in absurd cc
  | inr heavy ↦ leb-false weight max heavy
]

-- where none has the number, it is all
not_there : (schema : List SchemaRecord) (n : ℕ) (os : List Object) → object_of os n ≡ None
    → others_weight schema n os ≡ objects_weight schema os
unfolding others_weight objects_weight object_of
not_there schema n [] is = refl
not_there schema n (x ∷ xs) is = elim (cases_Bool (nat_eq x.number n)) [
  | inl here ↦ absurd (none-some x (sym (rw here at is)))
  | inr other ↦
      let one = is_other schema n x (λ e. let yes' : nat_eq x.number n ≡ true = eq-eqb x.number n e
      in (let e' : false ≡ true = sym other ∙ yes' in cc)) in
      let rest = not_there schema n xs (rw other at is) in
      rw (one, rest) refl
]

pub all_are_others : (dir : Directory) (n all : ℕ) → object_of dir.objects n ≡ None → all ≡ weight dir → all
    ≡ others_weight dir.schema n dir.objects
unfolding weight
all_are_others dir n all is known = known ∙ sym (not_there dir.schema n dir.objects is)

-- without the one
pub less_one : (dir : Directory) (n all left : ℕ) (o : Object) → RiseAbove 0 dir.objects → object_of dir.objects n
    ≡ Some o → left_of 268435456 (object_weight dir.schema o) ≡ Some left → all ≡ weight dir
    → all - (268435456 - left) ≡ others_weight dir.schema n dir.objects
unfolding weight
less_one dir n all left o rise is taken known =
    let parts = one_apart dir.schema 0 dir.objects n o rise is in
    let left_after = left_is 268435456 (object_weight dir.schema o) left taken in
    omega (arith, known, parts, left_after.0, left_after.1)

pub left_within : (weight left : ℕ) → left_of 268435456 weight ≡ Some left → left ≤ 268435456
left_within weight left is = let left_after = left_is 268435456 weight left is in omega (arith, left_after.1)

pub light_by : (dir : Directory) (o : Object) (left : ℕ) → IsSound dir
    → left_of 268435456 (object_weight dir.schema o) ≡ Some left
    → nat_le (others_weight dir.schema o.number dir.objects) left ≡ fits_weight_limit dir o
unfolding fits_weight_limit weight max_weight
light_by dir o left sound is =
    let parts = put_apart dir.schema 0 o dir.objects sound.rise in
    let left_after = left_is 268435456 (object_weight dir.schema o) left is in
    elim (cases_Bool (nat_le (others_weight dir.schema o.number dir.objects) left)) [
      | inl enough ↦
          let le : others_weight dir.schema o.number dir.objects ≤ left
          = leb-true (others_weight dir.schema o.number dir.objects) left enough in
          enough ∙ sym (le-leb (objects_weight dir.schema (put o dir.objects)) 268435456
          (omega (arith, parts, left_after.0, left_after.1, le)))
      | inr more ↦
          let lt : left < others_weight dir.schema o.number dir.objects
          = leb-false (others_weight dir.schema o.number dir.objects) left more in
          more ∙ sym (lt-leb (objects_weight dir.schema (put o dir.objects)) 268435456
          (omega (arith, parts, left_after.0, left_after.1, lt)))
    ]

pub heavy_by : (dir : Directory) (o : Object) → IsSound dir → left_of 268435456 (object_weight dir.schema o) ≡ None
    → false ≡ fits_weight_limit dir o
unfolding fits_weight_limit weight max_weight
heavy_by dir o sound is =
    let parts = put_apart dir.schema 0 o dir.objects sound.rise in
    let more = no_left 268435456 (object_weight dir.schema o) is in
    sym (lt-leb (objects_weight dir.schema (put o dir.objects)) 268435456 (omega (arith, parts, more)))

-- whether something is left
pub some_left : (left weight : ℕ) → is_some (left_of left weight) ≡ nat_le weight left
some_left left weight = elim (cases_Bool (nat_le weight left)) [
  | inl enough ↦ rw enough refl
  | inr heavy ↦ rw heavy refl
]

pub none_unless : (o : Option ℕ) → ((n : ℕ) → o ≡ Some n → ⊥) → o ≡ None
none_unless None no' = refl
none_unless (Some n) no' = absurd (no' n refl)
