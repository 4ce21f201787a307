-- Objects get their descriptors from the root, one after the other.
use Rattle.std.proofs.Common.{◌≡◌, ◌≢◌, ℕ, zero, suc, ◌+◌, ◌-◌, ◌<◌, ◌≤◌, true, false, Option, Some, List, []}
use Rattle.std.proofs.Common.{◌∷◌, ◌++◌, length, map, get_or, set, take, drop, refl, sym, ap, subst, ◌∙◌, arith}
use Rattle.std.proofs.Common.{append_assoc}
use Rattle.std.specs.Prelude.{slice_get, unwrap_or, nat_eq, ◌==◌}
use Rattle.std.specs.Option.{option_map}
use Rattle.std.proofs.lemmas.Bool.{eq-eqb, ne_eqb}
use Rattle.std.proofs.lemmas.List.{length-map}
use Rattle.std.proofs.lemmas.Option.{slice_get-map}
use Rattle.ad_sd.specs.declared.parts.Sd.{Sd}
use Rattle.ad_inherit.specs.Whole.{explicit_part, whole}
use Rattle.ad_schema.specs.declared.line.SchemaRecord.{SchemaRecord}
use Rattle.ad_dir_model.specs.Object.{Object, no_object}
use Rattle.ad_dir_model.specs.Objects.{object_of, object_at}
use Rattle.ad_dir_model.specs.Tree.{root, IsPlaced}
use Rattle.ad_dir_model.specs.Directory.{Directory, parents}
use Rattle.ad_dir_model.specs.Inheritance.{guid_at, scratch, scratch_within}
use Rattle.ad_dir_model.specs.Loading.{from_root}
use Rattle.ad_dir_model.specs.Conditions.{IsAllRead}
use Rattle.ad_dir_model.proofs.Finding.{at-of}
use Rattle.ad_dir_model.proofs.Recomputing.{scratch_below}
use Rattle.ad_dir_model.proofs.ScratchLaws.{whole_of_explicit}
use Rattle.ad_dir_objects.specs.declared.object.Object.{Object as ObjectIn}
use Rattle.ad_load.specs.Seen.{entry_seen}
use Rattle.ad_load.specs.Settling.{AreInOrder, HasPlaceAbove, at_place, settled_of, with_sd_at}
use Rattle.ad_load_objects.proofs.Places.{some_is, some_at, within, at_take, length_take}

-- ---- one object

pub seen_at : {X : Type 0} (seen : X → Object) (xs : List X) (i : ℕ) (x : X) → i < length xs → get_or xs i x ≡ x
    → slice_get (map seen xs) i ≡ Some (seen x)
seen_at seen [] i x lt is = absurd (omega arith)
seen_at seen (y ∷ ys) zero x lt is = ap (λ (z : _). Some (seen z)) is
seen_at seen (y ∷ ys) (suc i) x lt is = seen_at seen ys i x (omega (arith, lt)) is

pub settled_first : (schema : List SchemaRecord) (objects : List Object) (place : ℕ) (own : Object) → place ≡ 0
    → slice_get objects place ≡ Some own → settled_of schema objects place ≡ explicit_part own.sd
unfolding settled_of
settled_first schema objects place own first at =
    let test : (place == 0) ≡ true = eq-eqb place 0 first in
    rw test (ap (λ (o : Option Object). explicit_part (unwrap_or o no_object).sd) at)

pub settled_below : (schema : List SchemaRecord) (objects : List Object) (place : ℕ) (own above : Object)
    → place ≢ 0 → slice_get objects place ≡ Some own → slice_get objects (own.parent - 1) ≡ Some above
    → settled_of schema objects place ≡ whole above.sd own.sd (guid_at schema own.class)
unfolding settled_of
settled_below schema objects place own above not_first at at_above =
    let test : (place == 0) ≡ false = ne_eqb place 0 not_first in
    rw test (
    ap (λ (o : Option Object). whole (at_place objects ((unwrap_or o no_object).parent - 1)).sd
    (unwrap_or o no_object).sd (guid_at schema (unwrap_or o no_object).class)) at
    ∙ ap (λ (o : Option Object). whole (unwrap_or o no_object).sd own.sd (guid_at schema own.class)) at_above
    )

-- ---- the walk

-- numbers are places, counted from this one
found_place : (first : ℕ) (os : List Object) (i : ℕ) (o : Object)
    → ((j : ℕ) (x : Object) → slice_get os j ≡ Some x → x.number ≡ first + j) → slice_get os i ≡ Some o
    → object_of os (first + i) ≡ Some o
unfolding object_of
found_place first [] i o numbered at = absurd cc
found_place first (x ∷ xs) zero o numbered at =
    let own : x.number ≡ first + 0 = numbered 0 x refl in
    let here : nat_eq x.number (first + 0) ≡ true = eq-eqb x.number (first + 0) own in
    rw here at_front
  where
    at_front : Some x ≡ Some o
    at_front = at
found_place first (x ∷ xs) (suc i) o numbered at =
    let own : x.number ≡ first + 0 = numbered 0 x refl in
    let other : nat_eq x.number (first + suc i) ≡ false = ne_eqb x.number (first + suc i) (λ e. omega (arith, own, e))
    in
    let number : first + 1 + i ≡ first + suc i = omega arith in
    rw other (subst (λ (n : ℕ). object_of xs n ≡ Some o) number
    (found_place (first + 1) xs i o (λ j y is. let e : y.number
    ≡ first + suc j = numbered (suc j) y is in omega (arith, e)) at))

replaced : (xs ys : List Object) (y : Object) (sd : Sd) → with_sd_at (length xs) sd (xs ++ y ∷ ys) ≡ xs
    ++ record y { sd = sd } ∷ ys
unfolding with_sd_at
replaced [] ys y sd = refl
replaced (x ∷ xs) ys y sd = ap (λ (os : List Object). x ∷ os) (replaced xs ys y sd)

behind_at : (xs ys : List Object) (y : Object) → slice_get (xs ++ y ∷ ys) (length xs) ≡ Some y
behind_at [] ys y = refl
behind_at (x ∷ xs) ys y = behind_at xs ys y

front_at : (xs ys : List Object) (i : ℕ) → i < length xs → slice_get (xs ++ ys) i ≡ slice_get xs i
front_at [] ys i lt = absurd (omega (arith, lt))
front_at (x ∷ xs) ys zero lt = refl
front_at (x ∷ xs) ys (suc i) lt = front_at xs ys i (omega (arith, lt))

drop_at : (xs : List Object) (i : ℕ) (x : Object) → slice_get xs i ≡ Some x → drop i xs ≡ x ∷ drop (i + 1) xs
drop_at [] i x at = absurd cc
drop_at (y ∷ ys) zero x at = ap (λ (z : Object). z ∷ ys) (some_is y x at)
drop_at (y ∷ ys) (suc i) x at =
    let next : suc i + 1 ≡ suc (i + 1) = omega arith in
    drop_at ys i x at ∙ ap (λ (n : ℕ). x ∷ drop n (y ∷ ys)) (sym next)

take_at : (xs : List Object) (i : ℕ) (x : Object) → slice_get xs i ≡ Some x → take (i + 1) xs ≡ take i xs ++ x ∷ []
take_at [] i x at = absurd cc
take_at (y ∷ ys) zero x at = ap (λ (z : Object). z ∷ []) (some_is y x at)
take_at (y ∷ ys) (suc i) x at =
    let next : suc i + 1 ≡ suc (i + 1) = omega arith in
    ap (λ (n : ℕ). take n (y ∷ ys)) next ∙ ap (λ (zs : List Object). y ∷ zs) (take_at ys i x at)

map_behind : (f : Object → Object) (xs : List Object) (x : Object) → map f (xs ++ x ∷ []) ≡ map f xs ++ f x ∷ []
map_behind f [] x = refl
map_behind f (y ∷ ys) x = ap (λ (zs : List Object). f y ∷ zs) (map_behind f ys x)

module _ (dir : Directory) (read : IsAllRead dir) (order : AreInOrder dir.objects) where
  -- those before a place have their descriptors, and the others are as they were
  abbrev pub half : ℕ → List Object
  half place = map (from_root dir) (take place dir.objects) ++ drop place dir.objects

  long : (place : ℕ) → place ≤ length dir.objects → length (map (from_root dir) (take place dir.objects)) ≡ place
  long place le = length-map (take place dir.objects) (from_root dir) ∙ length_take dir.objects place le

  pub half_at : (place : ℕ) (own : Object) → slice_get dir.objects place ≡ Some own → slice_get (half place) place
      ≡ Some own
  half_at place own at =
      let lt : place < length dir.objects = within dir.objects place own at in
      ap (λ (os : List Object). slice_get (map (from_root dir) (take place dir.objects) ++ os) place)
      (drop_at dir.objects place own at)
      ∙ ap (slice_get (map (from_root dir) (take place dir.objects) ++ own ∷ drop (place + 1) dir.objects))
      (sym (long place (omega (arith, lt))))
      ∙ behind_at (map (from_root dir) (take place dir.objects)) (drop (place + 1) dir.objects) own

  before_at : (place i : ℕ) (o : Object) → i < place → place ≤ length dir.objects → slice_get dir.objects i ≡ Some o
      → slice_get (half place) i ≡ Some (from_root dir o)
  before_at place i o lt le at =
      front_at (map (from_root dir) (take place dir.objects)) (drop place dir.objects) i
      (omega (arith, lt, long place le))
      ∙ slice_get-map (from_root dir) (take place dir.objects) i
      ∙ ap (option_map (from_root dir)) (at_take dir.objects place i lt ∙ at)

  found : (place : ℕ) (o : Object) → slice_get dir.objects place ≡ Some o → object_of dir.objects (suc place) ≡ Some o
  found place o at =
      let number : 1 + place ≡ suc place = omega arith in
      subst (λ (n : ℕ). object_of dir.objects n ≡ Some o) number
      (found_place 1 dir.objects place o (λ j x is. let e : x.number
      ≡ suc j = order.number j x is in omega (arith, e)) at)

  first_settled : (own : Object) → slice_get dir.objects 0 ≡ Some own → explicit_part own.sd ≡ scratch dir 1
  unfolding scratch scratch_within
  first_settled own at = ap (λ (o : Object). explicit_part o.sd) (sym (at-of dir.objects 1 own (found 0 own at)))

  settled_is : (place : ℕ) (own : Object) → slice_get dir.objects place ≡ Some own
      → settled_of dir.schema (half place) place ≡ scratch dir own.number
  settled_is zero own at =
      settled_first dir.schema (half 0) 0 own refl (half_at 0 own at) ∙ first_settled own at
      ∙ ap (scratch dir) (sym (order.number 0 own at))
  settled_is (suc k) own at =
      let place : ℕ = suc k in
      let lt : suc k < length dir.objects = within dir.objects (suc k) own at in
      let not_first : suc k ≢ 0 = λ (e : suc k ≡ 0). omega (arith, e) in
      let range = order.above (suc k) own at not_first in
      let up : own.parent - 1 < suc k = omega (arith, range.0, range.1) in
      let there = some_at dir.objects (own.parent - 1) (omega (arith, up, lt)) in
      let above : Object = there.0 in
      let number_above : above.number ≡ suc (own.parent - 1) = order.number (own.parent - 1) above there.1 in
      let parent : above.number ≡ own.parent = omega (arith, number_above, range.0) in
      let number : own.number ≡ suc (suc k) = order.number (suc k) own at in
      let live = found (suc k) own at in
      let here : object_at dir.objects (suc (suc k)) ≡ own = at-of dir.objects (suc (suc k)) own live in
      let not_root : suc (suc k) ≡ root → ⊥ = λ (e : suc (suc k) ≡ root). omega (arith, e) in
      let own_not_root : own.number ≡ root → ⊥ = λ (e : own.number ≡ root). not_root (sym number ∙ e) in
      let placed : IsPlaced (parents dir) (suc (suc k)) = subst (IsPlaced (parents dir)) number
      ((read.each (suc (suc k)) own live).placed own_not_root) in
      settled_below dir.schema (half (suc k)) (suc k) own (from_root dir above) not_first (half_at (suc k) own at)
      (before_at (suc k) (own.parent - 1) above up (omega (arith, lt)) there.1)
      ∙ ap (λ (n : ℕ). whole (scratch dir n) own.sd (guid_at dir.schema own.class)) parent
      ∙ sym (whole_of_explicit (scratch dir own.parent) own.sd (guid_at dir.schema own.class))
      ∙ ap (λ (o : Object). whole (scratch dir o.parent) (explicit_part o.sd) (guid_at dir.schema o.class)) (sym here)
      ∙ sym (scratch_below dir (suc (suc k)) not_root placed)
      ∙ ap (scratch dir) (sym number)

  pub half_step : (place : ℕ) (own : Object) (sd : Sd) → slice_get dir.objects place ≡ Some own
      → sd ≡ settled_of dir.schema (half place) place → with_sd_at place sd (half place) ≡ half (place + 1)
  half_step place own sd at is =
      let lt : place < length dir.objects = within dir.objects place own at in
      let front : List Object = map (from_root dir) (take place dir.objects) in
      let rest : List Object = drop (place + 1) dir.objects in
      ap (λ (os : List Object). with_sd_at place sd (front ++ os)) (drop_at dir.objects place own at)
      ∙ ap (λ (n : ℕ). with_sd_at n sd (front ++ own ∷ rest)) (sym (long place (omega (arith, lt))))
      ∙ replaced front rest own sd
      ∙ ap (λ (x : Sd). front ++ record own { sd = x } ∷ rest) (is ∙ settled_is place own at)
      ∙ sym (append_assoc front (from_root dir own ∷ []) rest)
      ∙ ap (λ (os : List Object). os ++ rest) (sym (map_behind (from_root dir) (take place dir.objects) own)
      ∙ ap (map (from_root dir)) (sym (take_at dir.objects place own at)))

  pub above_here : (place : ℕ) → place < length dir.objects → HasPlaceAbove (half place) place
  above_here place lt o at not_first =
      let there = some_at dir.objects place lt in
      let same : there.0 ≡ o = some_is there.0 o (sym (half_at place there.0 there.1) ∙ at) in
      subst (λ (x : Object). (1 ≤ x.parent) × (x.parent ≤ place)) same (order.above place there.0 there.1 not_first)

pub put_entry : (xs : List (ObjectIn × Sd)) (place : ℕ) (item : ObjectIn × Sd) (sd : Sd) → place < length xs
    → item ≡ get_or xs place item → map entry_seen (set xs place (item.0, sd))
    ≡ with_sd_at place sd (map entry_seen xs)
unfolding with_sd_at
put_entry [] place item sd lt is = absurd (omega (arith, lt))
put_entry (x ∷ xs) zero item sd lt is = ap (λ (y : ObjectIn × Sd). entry_seen (y.0, sd) ∷ map entry_seen xs) is
put_entry (x ∷ xs) (suc place) item sd lt is = ap (λ (os : List Object). entry_seen x ∷ os)
    (put_entry xs place item sd (omega (arith, lt)) is)
