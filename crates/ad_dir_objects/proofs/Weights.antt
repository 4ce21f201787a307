-- What is left of a weight, item by item.
use Rattle.std.proofs.Common.{◌≡◌, ◌∙◌, ℕ, suc, ◌+◌, ◌-◌, ◌<◌, ◌≤◌, true, false, Some, None, inl, inr, List, ◌∷◌}
use Rattle.std.proofs.Common.{length, map, get_or, drop, drop-cons, add-one, refl, sym, ap, arith}
use Rattle.std.specs.Prelude.{nat_le}
use Rattle.std.proofs.lemmas.Bool.{cases_Bool, leb-true, leb-false, le-leb, false_from_ne_true}
use Rattle.std.proofs.lemmas.List.{drop_all}
use Rattle.ad_sd.specs.declared.parts.Sd.{Sd}
use Rattle.ad_schema.specs.declared.info.AttrId.{AttrId}
use Rattle.ad_schema.specs.declared.line.SchemaRecord.{SchemaRecord}
use Rattle.ad_dir_objects.specs.declared.object.Stored.{Stored as StoredIn}
use Rattle.ad_dir_objects.specs.declared.object.Object.{Object as ObjectIn}
use Rattle.ad_dir_objects.specs.Seen.{stored_seen, held_seen, object_seen, objects_of}
use Rattle.ad_dir_model.specs.Weight.{stored_weight, values_weight, held_weight, all_held_weight, object_weight}
use Rattle.ad_dir_model.specs.Weight.{objects_weight}
use Rattle.ad_dir_objects.specs.Left.{left_of}

-- a list from an item on
cut : {A : Type 0} (xs : List A) (i : ℕ) (x : A) → i < length xs → get_or xs i x ≡ x → drop i xs ≡ x ∷ drop (i + 1) xs
cut xs i x lt is = drop-cons xs i x lt ∙ ap (λ y. y ∷ drop (suc i) xs) is ∙ ap (λ n. x ∷ drop n xs) (sym (add-one i))

is_at_most : (a b : ℕ) → a ≤ b → nat_le a b ≡ true
is_at_most a b le = le-leb a b le

is_more : (a b : ℕ) → b < a → nat_le a b ≡ false
is_more a b lt = false_from_ne_true (nat_le a b) (λ e. let le : a ≤ b = leb-true a b e in omega (arith, lt, le))

some_same : {A : Type 0} (a b : A) → Some a ≡ Some b → a ≡ b
some_same a b e = cc

pub spent : (left w rest less : ℕ) → left_of left w ≡ Some less → left_of left (w + rest) ≡ left_of less rest
spent left w rest less e = elim (cases_Bool (nat_le w left)) [
  | inl enough ↦
      let le : w ≤ left = leb-true w left enough in
      let is : left - w ≡ less = some_same (left - w) less (rw enough at e) in
      elim (cases_Bool (nat_le rest less)) [
        | inl more ↦
            let le2 : rest ≤ less = leb-true rest less more in
            let all : nat_le (w + rest) left ≡ true = is_at_most (w + rest) left (omega (arith, le, le2, is)) in
            let same : left - (w + rest) ≡ less - rest = omega (arith, le, le2, is) in
            rw (all, more) (ap (λ (n : ℕ). Some n) same)
        | inr fewer ↦
            let lt : less < rest = leb-false rest less fewer in
            let all : nat_le (w + rest) left ≡ false = is_more (w + rest) left (omega (arith, le, lt, is)) in
            rw (all, fewer) refl
      ]
  | inr heavy ↦ let none : None ≡ Some less = rw heavy at e in absurd cc
]

pub too_heavy : (left w rest : ℕ) → left_of left w ≡ None → left_of left (w + rest) ≡ None
too_heavy left w rest e = elim (cases_Bool (nat_le w left)) [
  | inl enough ↦ let some : Some (left - w) ≡ None = rw enough at e in absurd cc
  | inr heavy ↦
      let lt : left < w = leb-false w left heavy in
      let all : nat_le (w + rest) left ≡ false = is_more (w + rest) left (omega (arith, lt)) in
      rw all refl
]

pub nothing : (left : ℕ) → left_of left 0 ≡ Some left
nothing left =
    let all : nat_le 0 left ≡ true = is_at_most 0 left (omega arith) in
    let same : left - 0 ≡ left = omega arith in
    rw all (ap (λ (n : ℕ). Some n) same)

pub values_next : (values : List StoredIn) (i : ℕ) (one : StoredIn) → i < length values → get_or values i one ≡ one
    → values_weight (map stored_seen (drop i values)) ≡ stored_weight (stored_seen one)
    + values_weight (map stored_seen (drop (i + 1) values))
unfolding values_weight
values_next values i one lt is = ap (λ (vs : List StoredIn). values_weight (map stored_seen vs))
    (cut values i one lt is)

pub values_end : (values : List StoredIn) (i : ℕ) → length values ≤ i
    → values_weight (map stored_seen (drop i values)) ≡ 0
unfolding values_weight
values_end values i le = ap (λ (vs : List StoredIn). values_weight (map stored_seen vs)) (drop_all i values le)

pub all_held_next : (schema : List SchemaRecord) (values : List (AttrId × List StoredIn)) (i : ℕ)
    (one : AttrId × List StoredIn) → i < length values → get_or values i one ≡ one
    → all_held_weight schema (map held_seen (drop i values)) ≡ held_weight schema (held_seen one)
    + all_held_weight schema (map held_seen (drop (i + 1) values))
unfolding all_held_weight
all_held_next schema values i one lt is = ap
    (λ (vs : List (AttrId × List StoredIn)). all_held_weight schema (map held_seen vs)) (cut values i one lt is)

pub all_held_end : (schema : List SchemaRecord) (values : List (AttrId × List StoredIn)) (i : ℕ) → length values ≤ i
    → all_held_weight schema (map held_seen (drop i values)) ≡ 0
unfolding all_held_weight
all_held_end schema values i le = ap (λ (vs : List (AttrId × List StoredIn)). all_held_weight schema
    (map held_seen vs)) (drop_all i values le)

pub objects_next : (schema : List SchemaRecord) (objects : List (ObjectIn × Sd)) (i : ℕ) (one : ObjectIn × Sd) → i
    < length objects → get_or objects i one ≡ one
    → objects_weight schema (objects_of (drop i objects))
    ≡ object_weight schema (object_seen one.0 one.1) + objects_weight schema (objects_of (drop (i + 1) objects))
unfolding objects_weight
objects_next schema objects i one lt is = ap (λ (os : List (ObjectIn × Sd)). objects_weight schema (objects_of os))
    (cut objects i one lt is)

pub objects_end : (schema : List SchemaRecord) (objects : List (ObjectIn × Sd)) (i : ℕ) → length objects ≤ i
    → objects_weight schema (objects_of (drop i objects)) ≡ 0
unfolding objects_weight
objects_end schema objects i le = ap (λ (os : List (ObjectIn × Sd)). objects_weight schema (objects_of os))
    (drop_all i objects le)
