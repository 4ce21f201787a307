-- Lists of objects that rise are equal where the same is found in them.
use Rattle.std.proofs.Common.{◌≡◌, ℕ, zero, suc, ◌<◌, ◌≤◌, Bool, true, false, cond, List, [], ◌∷◌, Option, Some, None}
use Rattle.std.proofs.Common.{◌⊎◌, inl, inr, refl, sym, subst, ap, arith, ◌∙◌}
use Rattle.std.specs.Prelude.{nat_eq, find}
use Rattle.std.proofs.lemmas.Bool.{eqb-true, eqb-false, ne_eqb, eq-eqb, cases_Bool}
use Rattle.std.proofs.lemmas.Option.{none-some, same_Some}
use Rattle.ad_dir_model.specs.Object.{Object}
use Rattle.ad_dir_model.specs.Objects.{RiseAbove, Rise, has_number, object_of}
use Rattle.ad_dir_model.proofs.Finding.{of_above}

first_found : (x : Object) (xs : List Object) → object_of (x ∷ xs) x.number ≡ Some x
unfolding object_of
first_found x xs = rw (eq-eqb x.number x.number refl) refl

nothing_found : (n : ℕ) → None ≡ object_of [] n
unfolding object_of
nothing_found n = refl

-- the first number of the one is no smaller than that of the other
no_smaller : (m : ℕ) (x y : Object) (ys : List Object) → RiseAbove m (y ∷ ys) → object_of (y ∷ ys) x.number ≡ Some x
    → y.number ≤ x.number
unfolding object_of
no_smaller m x y ys rise is =
    elim (cases_Bool (nat_eq y.number x.number)) [
      | inl same ↦ let e : y.number ≡ x.number = eqb-true y.number x.number same in omega arith
      | inr differ ↦ let above : y.number < x.number = of_above y.number ys x.number x rise.1 (rw differ at is)
          in omega arith
    ]

none_behind : (n : ℕ) (xs : List Object) → RiseAbove n xs → object_of xs n ≡ None
none_behind n xs rise = by_found (object_of xs n) refl
  where
    by_found : (found : Option Object) → object_of xs n ≡ found → found ≡ None
    by_found None is = refl
    by_found (Some x) is = let above : n < n = of_above n xs n x rise is in absurd (omega arith)

found_behind : (x : Object) (xs : List Object) (n : ℕ) → (x.number ≡ n → ⊥) → object_of (x ∷ xs) n ≡ object_of xs n
unfolding object_of
found_behind x xs n apart = rw (ne_eqb x.number n apart) refl

same_first : (m : ℕ) (x y : Object) (xs ys : List Object) → RiseAbove m (x ∷ xs) → RiseAbove m (y ∷ ys)
    → ((n : ℕ) → object_of (x ∷ xs) n ≡ object_of (y ∷ ys) n) → x ≡ y
same_first m x y xs ys rise_x rise_y same =
    let in_ys : object_of (y ∷ ys) x.number ≡ Some x = sym (same x.number) ∙ first_found x xs in
    let in_xs : object_of (x ∷ xs) y.number ≡ Some y = same y.number ∙ first_found y ys in
    let below : y.number ≤ x.number = no_smaller m x y ys rise_y in_ys in
    let above : x.number ≤ y.number = no_smaller m y x xs rise_x in_xs in
    let number : x.number ≡ y.number = omega arith in
    same_Some x y (sym in_ys ∙ ap (object_of (y ∷ ys)) number ∙ first_found y ys)

same_rest : (m : ℕ) (x y : Object) (xs ys : List Object) → RiseAbove m (x ∷ xs) → RiseAbove m (y ∷ ys) → x ≡ y
    → ((n : ℕ) → object_of (x ∷ xs) n ≡ object_of (y ∷ ys) n) → (n : ℕ) → object_of xs n ≡ object_of ys n
same_rest m x y xs ys rise_x rise_y first same n =
    elim (cases_Bool (nat_eq x.number n)) [
      | inl here ↦
          let is : x.number ≡ n = eqb-true x.number n here in
          let other : y.number ≡ n = ap (λ (o : Object). o.number) (sym first) ∙ is in
          none_behind n xs (subst (λ (k : ℕ). RiseAbove k xs) is rise_x.1)
          ∙ sym (none_behind n ys (subst (λ (k : ℕ). RiseAbove k ys) other rise_y.1))
      | inr differ ↦
          let apart : x.number ≡ n → ⊥ = eqb-false x.number n differ in
          let apart_too : y.number ≡ n → ⊥ = λ (e : y.number ≡ n). apart (ap (λ (o : Object). o.number) first ∙ e) in
          sym (found_behind x xs n apart) ∙ same n ∙ found_behind y ys n apart_too
    ]

pub same_objects : (m : ℕ) (xs ys : List Object) → RiseAbove m xs → RiseAbove m ys
    → ((n : ℕ) → object_of xs n ≡ object_of ys n) → xs ≡ ys
same_objects m [] [] rise_x rise_y same = refl
same_objects m [] (y ∷ ys) rise_x rise_y same
    = absurd (none-some y (nothing_found y.number ∙ same y.number ∙ first_found y ys))
same_objects m (x ∷ xs) [] rise_x rise_y same
    = absurd (none-some x (nothing_found x.number ∙ sym (same x.number) ∙ first_found x xs))
same_objects m (x ∷ xs) (y ∷ ys) rise_x rise_y same =
    let first : x ≡ y = same_first m x y xs ys rise_x rise_y same in
    let rise_rest : RiseAbove x.number ys = subst (λ (o : Object). RiseAbove o.number ys) (sym first) rise_y.1 in
    ap (λ (o : Object). o ∷ xs) first ∙ ap (λ (os : List Object). y ∷ os)
    (same_objects x.number xs ys rise_x.1 rise_rest (same_rest m x y xs ys rise_x rise_y first same))
