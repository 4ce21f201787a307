-- The links of objects that are counted one after the other.
use Rattle.std.proofs.Common.{◌≡◌, ℕ, ◌+◌, ◌<◌, Bool, Some, List, [], ◌∷◌, ◌++◌, inl, inr, sym, subst, ap, ◌∙◌, arith}
use Rattle.std.proofs.Common.{get_or, length, ◌≤◌}
use Rattle.std.specs.Prelude.{nat_eq, take}
use Rattle.std.proofs.lemmas.List.{take_more, take_all}
use Rattle.ad_sd.specs.declared.parts.Sd.{Sd}
use Rattle.ad_dir_objects.specs.declared.object.Object.{Object as ObjectIn}
use Rattle.ad_dir_objects.specs.Seen.{object_seen, objects_of}
use Rattle.std.specs.List.{AllByRecursion}
use Rattle.std.proofs.lemmas.Bool.{cases_Bool}
use Rattle.std.proofs.lemmas.Option.{none-some, same_Some}
use Rattle.ad_dir_model.specs.Object.{Object}
use Rattle.ad_dir_model.specs.Objects.{object_of}
use Rattle.ad_dir_links.specs.Marks.{all_ties}
use Rattle.ad_dir_links.specs.Counted.{times, counted, Covers, IsCounted, AreCounted, Adds, Keeps}
use Rattle.ad_dir_links.specs.Changing.{object_ties}
use Rattle.ad_dir_links.proofs.Counting.{adds_keeps, gain_own}

-- what holds of each holds of one that is found
found_all : (P : Object → Type 0) (os : List Object) (n : ℕ) (o : Object) → AllByRecursion P os → object_of os n
    ≡ Some o → P o
unfolding object_of
found_all P [] n o all is = absurd (none-some o is)
found_all P (x ∷ xs) n o all is = elim (cases_Bool (nat_eq x.number n)) [
  | inl here ↦ subst P (same_Some x o (rw here at is)) all.0
  | inr other ↦ found_all P xs n o all.1 (rw other at is)
]

pub all_counted : (indexed : List Bool) (es : List (ℕ × ℕ)) (os : List Object) → AllByRecursion (IsCounted indexed es)
    os → AreCounted indexed es os
all_counted indexed es os all n o is = found_all (IsCounted indexed es) os n o all is

-- what was counted still is
still : (indexed : List Bool) (old new : List (ℕ × ℕ)) (os : List Object) → Keeps old new
    → AllByRecursion (IsCounted indexed old) os → AllByRecursion (IsCounted indexed new) os
still indexed old new [] keeps all = tt
still indexed old new (o ∷ os) keeps all = (
  λ small t. keeps t o.number (times t (all_ties indexed o.name o.values))
      small (all.0 small t),
  still indexed old new os keeps all.1,
)

-- one more

all_push : (P : Object → Type 0) (xs : List (ObjectIn × Sd)) (x : ObjectIn × Sd) → AllByRecursion P (objects_of xs)
    → P (object_seen x.0 x.1) → AllByRecursion P (objects_of (xs ++ x ∷ []))
all_push P [] x all here = (here, tt)
all_push P (y ∷ ys) x all here = (all.0, all_push P ys x all.1 here)

new_one : (indexed : List Bool) (old new : List (ℕ × ℕ)) (o : ObjectIn) (sd : Sd)
    → Adds o.number (object_ties indexed o) old new → IsCounted indexed new (object_seen o sd)
new_one indexed old new o sd adds small t =
    subst (Covers (counted new t o.number)) (let e = gain_own o.number (object_ties indexed o) t in omega (arith, e))
    (adds t o.number 0 small (λ below. omega arith))

pub counted_next : (indexed : List Bool) (old new : List (ℕ × ℕ)) (objects : List (ObjectIn × Sd)) (i : ℕ)
    (x : ObjectIn × Sd) → i < length objects → x ≡ get_or objects i x
    → Adds x.0.number (object_ties indexed x.0) old new → AllByRecursion (IsCounted indexed old)
    (objects_of (take i objects)) → AllByRecursion (IsCounted indexed new) (objects_of (take (i + 1) objects))
counted_next indexed old new objects i x within is adds all =
    subst (λ (os : List (ObjectIn × Sd)). AllByRecursion (IsCounted indexed new) (objects_of os))
    (ap (λ (y : ObjectIn × Sd). take i objects ++ y ∷ []) is ∙ sym (take_more objects i x within))
    (all_push (IsCounted indexed new) (take i objects) x
    (still indexed old new (objects_of (take i objects))
    (adds_keeps x.0.number (object_ties indexed x.0) old new adds) all) (new_one indexed old new x.0 x.1 adds))

pub counted_all : (indexed : List Bool) (es : List (ℕ × ℕ)) (objects : List (ObjectIn × Sd)) (i : ℕ) → length objects
    ≤ i → AllByRecursion (IsCounted indexed es) (objects_of (take i objects))
    → AreCounted indexed es (objects_of objects)
counted_all indexed es objects i past all =
    all_counted indexed es (objects_of objects)
    (subst (λ (os : List (ObjectIn × Sd)). AllByRecursion (IsCounted indexed es) (objects_of os))
    (take_all i objects past) all)
