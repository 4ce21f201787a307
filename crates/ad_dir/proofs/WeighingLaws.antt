-- The weight of all objects after a put and a removal.
use Rattle.std.proofs.Common.{◌≡◌, ℕ, ◌+◌, ◌-◌, ◌<◌, ◌≤◌, List, [], ◌∷◌, Option, Some, None, Result, Ok, Err, inl}
use Rattle.std.proofs.Common.{inr, refl, sym, subst, ap, ◌∙◌, arith}
use Rattle.std.specs.Prelude.{nat_eq, nat_lt, nat_le, OnOk, OnErr}
use Rattle.std.specs.Option.{option_map_or, IfSome}
use Rattle.std.proofs.lemmas.Bool.{cases_Bool, eqb-true, leb-true}
use Rattle.std.proofs.lemmas.Bool.Decides.{nat_tests}
use Rattle.std.proofs.lemmas.Option.{none-some, same_Some}
use Rattle.ad_schema.specs.declared.line.SchemaRecord.{SchemaRecord}
use Rattle.ad_dir_model.specs.Object.{Object}
use Rattle.ad_dir_model.specs.Objects.{RiseAbove, object_of, put, removed}
use Rattle.ad_dir_model.specs.Weight.{object_weight, objects_weight}
use Rattle.ad_dir_model.proofs.Finding.{of_above}
use Rattle.ad_dir_table.specs.Entry.{Entry, objects_in}
use Rattle.ad_dir_objects.specs.Left.{left_of}
use Rattle.ad_dir.specs.Weighing.{WeighsOne, Weighs, weight_in}

none_in : (schema : List SchemaRecord) (m n : ℕ) (os : List Object) → RiseAbove m os → n ≤ m → weight_in schema os n ≡ 0
none_in schema m n os rise le = by_found (object_of os n) refl
  where
    by_found : (found : Option Object) → object_of os n ≡ found → option_map_or (object_weight schema)
        (object_of os n) 0 ≡ 0
    by_found None is = ap (λ (f : Option Object). option_map_or (object_weight schema) f 0) is
    by_found (Some o) is = let above : m < n = of_above m os n o rise is in absurd (omega (arith, above, le))

pub put_weighs : (schema : List SchemaRecord) (m : ℕ) (o : Object) (os : List Object) → RiseAbove m os
    → objects_weight schema (put o os) + weight_in schema os o.number ≡ objects_weight schema os
    + object_weight schema o
unfolding objects_weight put object_of
put_weighs schema m o [] rise = omega arith
put_weighs schema m o (x ∷ xs) rise = elim (cases_Bool (nat_eq x.number o.number)) [
  | inl here ↦ rw here (omega arith)
  | inr other ↦ elim (cases_Bool (nat_lt o.number x.number)) [
    | inl less ↦
        let below : o.number ≤ x.number = grind (arith, nat_tests) in
        let none : weight_in schema xs o.number ≡ 0 = none_in schema x.number o.number xs rise.1 below in
        rw (other, less) (omega (arith, none))
    | inr more ↦
        let rest = put_weighs schema x.number o xs rise.1 in
        rw (other, more) (omega (arith, rest))
  ]
]

pub removed_weighs : (schema : List SchemaRecord) (m n : ℕ) (os : List Object) → RiseAbove m os
    → objects_weight schema (removed n os) + weight_in schema os n ≡ objects_weight schema os
unfolding objects_weight removed object_of
removed_weighs schema m n [] rise = omega arith
removed_weighs schema m n (x ∷ xs) rise =
    let rest = removed_weighs schema x.number n xs rise.1 in
    elim (cases_Bool (nat_eq x.number n)) [
      | inl here ↦
          let same : x.number ≡ n = eqb-true x.number n here in
          let none : weight_in schema xs n ≡ 0 = none_in schema x.number n xs rise.1 (omega (arith, same)) in
          rw here (omega (arith, rest, none))
      | inr other ↦ rw other (omega (arith, rest))
    ]

-- what is taken from the largest weight
pub taken_is : (weight left : ℕ) → left_of 268435456 weight ≡ Some left → 268435456 - left ≡ weight
taken_is weight left e = elim (cases_Bool (nat_le weight 268435456)) [
  | inl enough ↦
      let le : weight ≤ 268435456 = leb-true weight 268435456 enough in
      let is : 268435456 - weight ≡ left = same_Some (268435456 - weight) left (rw enough at e) in
      omega (arith, le, is)
  | inr heavy ↦ absurd (none-some left (rw heavy at e))
]

pub weighs_as : (known : Option ℕ) (a b : ℕ) → a ≡ b → WeighsOne known a → WeighsOne known b
weighs_as known a b e h = subst (WeighsOne known) e h

pub if_known : (known : Option ℕ) (a b : ℕ) → a ≡ b → WeighsOne known a → IfSome known (λ (n : ℕ). n ≡ b)
if_known None a b e h = tt
if_known (Some n) a b e h = h ∙ e

pub none_weigh : (schema : List SchemaRecord) → Weighs schema (Some 0) []
unfolding objects_weight
none_weigh schema = refl

pub left_within : (weight left : ℕ) → left_of 268435456 weight ≡ Some left → left ≤ 268435456
left_within weight left e = elim (cases_Bool (nat_le weight 268435456)) [
  | inl enough ↦ let is : 268435456 - weight ≡ left = same_Some (268435456 - weight) left (rw enough at e)
      in omega (arith, is)
  | inr heavy ↦ absurd (none-some left (rw heavy at e))
]

-- whether the put went well or not
pub either_weighs : {A E : Type 0} (r : Result A E) (schema : List SchemaRecord) (before after : List Entry)
    (o : Object) (known new old : Option ℕ) → OnOk r (objects_in after ≡ put o (objects_in before))
    → OnErr r (after ≡ before)
    → OnOk r (known ≡ new) → OnErr r (known ≡ old) → Weighs schema old (objects_in before)
    → Weighs schema new (put o (objects_in before)) → Weighs schema known (objects_in after)
either_weighs (Ok x) schema before after o known new old ok err is_new is_old weighs puts
    = subst (Weighs schema known) (sym ok)
    (subst (λ (k : Option ℕ). Weighs schema k (put o (objects_in before))) (sym is_new) puts)
either_weighs (Err x) schema before after o known new old ok err is_new is_old weighs puts
    = subst (λ (entries : List Entry). Weighs schema known (objects_in entries)) (sym err)
    (subst (λ (k : Option ℕ). Weighs schema k (objects_in before)) (sym is_old) weighs)
