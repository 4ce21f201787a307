-- The children of each parent after an edit.
use Rattle.std.proofs.Common.{◌≡◌, ℕ, ◌<◌, ◌≤◌, true, false, List, [], ◌∷◌, Option, Some, None, refl, sym, subst, ap}
use Rattle.std.proofs.Common.{◌∙◌, inl, inr, if◌then◌else◌, arith}
use Rattle.std.specs.Prelude.{nat_eq, nat_lt, find, ◌==◌}
use Rattle.std.specs.Option.{option_map_or, option_and_then}
use Rattle.std.specs.Global.{Vec}
use Rattle.std.proofs.lemmas.Bool.{cases_Bool, eqb-true, eqb-false, ltb-true, eq-eqb, ne_eqb}
use Rattle.std.proofs.lemmas.Bool.Decides.{nat_tests}
use Rattle.std.proofs.lemmas.Option.{none-some, same_Some}
use Rattle.ad_dir_model.specs.Object.{Object}
use Rattle.ad_dir_model.specs.Objects.{RiseAbove, Rise, object_of, children, next_child, put, removed}
use Rattle.ad_dir_model.proofs.Finding.{of_above}
use Rattle.ad_dir_table.specs.KeyChanges.{IsChange}
use Rattle.ad_dir_table.specs.Lists.{RiseFrom, put_number, without_number, Lacks, listed, ListsRise, IsNew, ListSame}
use Rattle.ad_dir_table.specs.Lists.{Drops, Moves}
use Rattle.ad_dir_table.specs.Indexed.{was, parent_of}
use Rattle.ad_dir_table.proofs.NumberLaws.{without_none, put_first, lacks_same, lacks_below}

pub children_rise : (m : ℕ) (os : List Object) (p : ℕ) → RiseAbove m os → RiseFrom m (children os p)
children_rise m os p rise = rises m m os rise (omega arith)
  where
    rises : (k m : ℕ) (os : List Object) → RiseAbove m os → k ≤ m → RiseFrom k (children os p)
    rises k m [] rise le = tt
    rises k m (x ∷ xs) rise le =
        let above : m < x.number = rise.0 in
        elim (cases_Bool (nat_eq x.parent p)) [
          | inl child ↦ rw child (omega (arith, le, above), rises x.number x.number xs rise.1 (omega arith))
          | inr other ↦ rw other (rises k x.number xs rise.1 (omega (arith, le, above)))
        ]

pub lists_rise : (os : List Object) (entries : List (ℕ × Vec ℕ)) → Rise os → ListSame (children os) (listed entries)
    → ListsRise entries
lists_rise os entries rise same p = subst (RiseFrom 0) (sym (same p)) (children_rise 0 os p rise)

-- ---- what stands under a parent

-- an object that isn't the parent's child isn't among them
pub not_among : (m n : ℕ) (os : List Object) (p : ℕ) → RiseAbove m os
    → ((o : Object) → object_of os n ≡ Some o → o.parent ≡ p → ⊥) → Lacks n (children os p)
unfolding object_of
not_among m n [] p rise none = tt
not_among m n (x ∷ xs) p rise none = elim (cases_Bool (nat_eq x.number n)) [
  | inl here ↦
      let e : x.number ≡ n = eqb-true x.number n here in
      let other : nat_eq x.parent p ≡ false = ne_eqb x.parent p (none x (rw here refl)) in
      rw other (lacks_below n x.number (children xs p) (children_rise x.number xs p rise.1) (omega (arith, e)))
  | inr apart ↦
      let rest : Lacks n (children xs p) = not_among x.number n xs p rise.1 (λ o is. none o (rw apart is)) in
      elim (cases_Bool (nat_eq x.parent p)) [
        | inl child ↦ rw child (eqb-false x.number n apart, rest)
        | inr other ↦ rw other rest
      ]
]

-- one that is its child stands where it belongs
put_back : (m n : ℕ) (os : List Object) (p : ℕ) (w : Object) → RiseAbove m os → object_of os n ≡ Some w → w.parent ≡ p
    → put_number n (without_number n (children os p)) ≡ children os p
unfolding object_of put_number without_number
put_back m n [] p w rise is child = absurd (none-some w is)
put_back m n (x ∷ xs) p w rise is child = elim (cases_Bool (nat_eq x.number n)) [
  | inl here ↦
      let e : x.number ≡ n = eqb-true x.number n here in
      let itself : x ≡ w = same_Some x w (rw here at is) in
      let under : nat_eq x.parent p ≡ true = eq-eqb x.parent p (ap (λ (o : Object). o.parent) itself ∙ child) in
      let rises = children_rise x.number xs p rise.1 in
      let gone : without_number n (children xs p) ≡ children xs p = without_none n x.number (children xs p) rises
      (omega (arith, e)) in
      let first : put_number n (children xs p) ≡ n ∷ children xs p = put_first n x.number (children xs p) rises
      (omega (arith, e)) in
      rw (under, here) (ap (put_number n) gone ∙ first ∙ ap (λ (k : ℕ). k ∷ children xs p) (sym e))
  | inr apart ↦
      let live : object_of xs n ≡ Some w = rw apart at is in
      let above : x.number < n = of_above x.number xs n w rise.1 live in
      let behind : nat_lt n x.number ≡ false = grind (arith, nat_tests) in
      let rest = put_back x.number n xs p w rise.1 live child in
      elim (cases_Bool (nat_eq x.parent p)) [
        | inl under ↦ rw (under, apart, behind) (ap (λ (ns : List ℕ). x.number ∷ ns) rest)
        | inr other ↦ rw other rest
      ]
]

-- ---- a put

abbrev put_under : Object → ℕ → List ℕ → List ℕ
put_under o p ns = if nat_eq o.parent p then put_number o.number (without_number o.number ns)
    else without_number o.number ns

under_first : (o : Object) (xs : List Object) (p : ℕ) (ns : List ℕ) → without_number o.number ns ≡ children xs p
    → RiseFrom o.number (children xs p) → children (o ∷ xs) p ≡ put_under o p ns
under_first o xs p ns gone rise = elim (cases_Bool (nat_eq o.parent p)) [
  | inl child ↦ rw child (sym (put_first o.number o.number (children xs p) rise (omega arith))
      ∙ ap (put_number o.number) (sym gone))
  | inr other ↦ rw other (sym gone)
]

under_behind : (o : Object) (p k : ℕ) (ns : List ℕ) → nat_eq k o.number ≡ false → nat_lt o.number k ≡ false → k
    ∷ put_under o p ns ≡ put_under o p (k ∷ ns)
unfolding put_number without_number
under_behind o p k ns apart behind = elim (cases_Bool (nat_eq o.parent p)) [
  | inl child ↦ rw (child, apart, behind) refl
  | inr other ↦ rw (other, apart) refl
]

children_put : (m : ℕ) (o : Object) (os : List Object) (p : ℕ) → RiseAbove m os → children (put o os) p
    ≡ put_under o p (children os p)
unfolding put without_number
children_put m o [] p rise = under_first o [] p [] refl tt
children_put m o (x ∷ xs) p rise = elim (cases_Bool (nat_eq x.number o.number)) [
  | inl same ↦
      let e : x.number ≡ o.number = eqb-true x.number o.number same in
      let rises : RiseFrom o.number (children xs p) = subst (λ (k : ℕ). RiseFrom k (children xs p)) e
      (children_rise x.number xs p rise.1) in
      let none : without_number o.number (children xs p) ≡ children xs p = without_none o.number o.number
      (children xs p) rises (omega arith) in
      let gone : without_number o.number (children (x ∷ xs) p) ≡ children xs p = elim (cases_Bool (nat_eq x.parent p)) [
        | inl child ↦ rw (child, same) none
        | inr other ↦ rw other none
      ] in
      rw same (under_first o xs p (children (x ∷ xs) p) gone rises)
  | inr apart ↦ elim (cases_Bool (nat_lt o.number x.number)) [
    | inl less ↦
        let below : o.number < x.number = ltb-true o.number x.number less in
        let rises : RiseFrom o.number (children (x ∷ xs) p) = children_rise o.number (x ∷ xs) p (below, rise.1) in
        let none : without_number o.number (children (x ∷ xs) p) ≡ children (x ∷ xs) p
        = without_none o.number o.number (children (x ∷ xs) p) rises (omega arith) in
        rw (apart, less) (under_first o (x ∷ xs) p (children (x ∷ xs) p) none rises)
    | inr more ↦
        let rest = children_put x.number o xs p rise.1 in
        elim (cases_Bool (nat_eq x.parent p)) [
          | inl child ↦ rw (apart, more, child)
              (ap (λ (ns : List ℕ). x.number ∷ ns) rest ∙ under_behind o p x.number (children xs p) apart more)
          | inr other ↦ rw (apart, more, other) rest
        ]
  ]
]

-- ---- an edit of the lists

module _ (o : Object) (os : List Object) (rise : Rise os) (p : ℕ) where
  -- where nothing of the number stands under the parent
  new_here : Lacks o.number (children os p) → put_under o p (children os p)
      ≡ (if nat_eq o.parent p then put_number o.number (children os p) else children os p)
  new_here lacks = let same = lacks_same o.number (children os p) lacks in elim (cases_Bool (nat_eq o.parent p)) [
    | inl child ↦ rw child (ap (put_number o.number) same)
    | inr other ↦ rw other same
  ]

  -- where the parent stays
  kept_here : was parent_of os o.number ≡ Some o.parent → put_under o p (children os p) ≡ children os p
  kept_here same = by_found (object_of os o.number) refl same
    where
      by_found : (found : Option Object) → object_of os o.number ≡ found → option_and_then parent_of found
          ≡ Some o.parent → put_under o p (children os p) ≡ children os p
      by_found None live is = absurd (none-some o.parent is)
      by_found (Some w) live is =
          let e : w.parent ≡ o.parent = same_Some w.parent o.parent is in
          elim (cases_Bool (nat_eq o.parent p)) [
            | inl child ↦ rw child (put_back 0 o.number os p w rise live (e ∙ eqb-true o.parent p child))
            | inr other ↦
                let apart : o.parent ≡ p → ⊥ = eqb-false o.parent p other in
                rw other (lacks_same o.number (children os p) (not_among 0 o.number os p rise
                (λ (x : Object) is under. apart (sym e ∙ ap (λ (y : Object). y.parent) (same_Some w x (sym live ∙ is))
                ∙ under))))
          ]

  -- where it changes
  moved_here : (mid new : ℕ → List ℕ) → mid p
      ≡ (if nat_eq o.parent p then put_number o.number (children os p) else children os p)
      → Drops (was parent_of os o.number) o.number mid new
      → ((q : ℕ) → Some o.parent ≡ Some q → was parent_of os o.number ≡ Some q → ⊥) → new p
      ≡ put_under o p (children os p)
  moved_here mid new added drops apart = by_found (object_of os o.number) refl (drops p) (apart o.parent refl)
    where
      by_found : (found : Option Object) → object_of os o.number ≡ found
          → new p ≡ option_map_or (λ parent. if parent == p then without_number o.number (mid p) else mid p)
          (option_and_then parent_of found) (mid p)
          → (option_and_then parent_of found ≡ Some o.parent → ⊥) → new p ≡ put_under o p (children os p)
      by_found None live is differ =
          is ∙ added ∙ sym (new_here (not_among 0 o.number os p rise
          (λ (x : Object) at under. none-some x (sym live ∙ at))))
      by_found (Some w) live is differ = elim (cases_Bool (nat_eq w.parent p)) [
        | inl under ↦
            let e : w.parent ≡ p = eqb-true w.parent p under in
            let other : nat_eq o.parent p ≡ false
            = ne_eqb o.parent p (λ (f : o.parent ≡ p). differ (ap Some (e ∙ sym f))) in
            let before : mid p ≡ children os p = rw other at added in
            let gone : new p ≡ without_number o.number (mid p) = rw under at is in
            rw other (gone ∙ ap (without_number o.number) before)
        | inr off ↦
            let stays : new p ≡ mid p = rw off at is in
            let apart_here : w.parent ≡ p → ⊥ = eqb-false w.parent p off in
            stays ∙ added ∙ sym (new_here (not_among 0 o.number os p rise
            (λ (x : Object) at under. apart_here (ap (λ (y : Object). y.parent) (same_Some w x (sym live ∙ at))
            ∙ under))))
      ]

-- it is new under the parent that it gets
pub is_new : (o : Object) (os : List Object) (to from : Option ℕ) (entries : List (ℕ × Vec ℕ)) → Rise os
    → IsChange (was parent_of os o.number) (parent_of o) to from → ListSame (children os) (listed entries)
    → IsNew to o.number entries
is_new o os to from entries rise change same p is = subst (Lacks o.number) (sym (same p)) (elim change [
  | inl kept ↦ absurd (none-some p (sym kept.no_put ∙ is))
  | inr other ↦ not_among 0 o.number os p rise (λ (x : Object) live under.
      other.apart p (sym other.put ∙ is) (ap (option_and_then parent_of) live ∙ ap Some under))
])

pub put_children : (o : Object) (os : List Object) (to from : Option ℕ) (old new : ℕ → List ℕ) → Rise os
    → IsChange (was parent_of os o.number) (parent_of o) to from → Moves to from o.number old new
    → ListSame (children os) old → ListSame (children (put o os)) new
put_children o os to from old new rise change moves same p = elim change [
  | inl kept ↦
      let added : moves.mid p ≡ old p = subst
      (λ (t : Option ℕ). moves.mid p ≡ option_map_or (λ parent. if parent == p then put_number o.number (old p)
      else old p) t (old p)) kept.no_put (moves.adds p) in
      let dropped : new p ≡ moves.mid p = subst
      (λ (t : Option ℕ). new p ≡ option_map_or
      (λ parent. if parent == p then without_number o.number (moves.mid p) else moves.mid p) t (moves.mid p))
      kept.no_take (moves.drops p) in
      dropped ∙ added ∙ same p ∙ sym (kept_here o os rise p kept.same) ∙ sym (children_put 0 o os p rise)
  | inr other ↦
      let added = subst (λ (t : Option ℕ). moves.mid p
      ≡ option_map_or (λ parent. if parent == p then put_number o.number (old p) else old p) t (old p)) other.put
      (moves.adds p) in
      let here = subst (λ (ns : List ℕ). moves.mid p ≡ (if nat_eq o.parent p then put_number o.number ns else ns))
      (same p) added in
      let drops = subst (λ (t : Option ℕ). Drops t o.number moves.mid new) other.taken moves.drops in
      moved_here o os rise p moves.mid new here drops other.apart ∙ sym (children_put 0 o os p rise)
]

-- ---- a removal

pub removed_children : (number : ℕ) (os : List Object) (p : ℕ) → children (removed number os) p
    ≡ without_number number (children os p)
unfolding removed without_number
removed_children number [] p = refl
removed_children number (x ∷ xs) p = elim (cases_Bool (nat_eq x.number number)) [
  | inl here ↦ elim (cases_Bool (nat_eq x.parent p)) [
    | inl child ↦ rw (here, child, here) (removed_children number xs p)
    | inr other ↦ rw (here, other) (removed_children number xs p)
  ]
  | inr apart ↦ elim (cases_Bool (nat_eq x.parent p)) [
    | inl child ↦ rw (apart, child, apart) (ap (λ (ns : List ℕ). x.number ∷ ns) (removed_children number xs p))
    | inr other ↦ rw (apart, other) (removed_children number xs p)
  ]
]

pub removed_lists : (number : ℕ) (o : Object) (os : List Object) (old new : ℕ → List ℕ) → Rise os
    → object_of os number ≡ Some o → Drops (Some o.parent) number old new → ListSame (children os) old
    → ListSame (children (removed number os)) new
removed_lists number o os old new rise live drops same p = elim (cases_Bool (nat_eq o.parent p)) [
  | inl child ↦
      let gone : new p ≡ without_number number (old p) = rw child at (drops p) in
      gone ∙ ap (without_number number) (same p) ∙ sym (removed_children number os p)
  | inr other ↦
      let stays : new p ≡ old p = rw other at (drops p) in
      let apart : o.parent ≡ p → ⊥ = eqb-false o.parent p other in
      stays ∙ same p ∙ sym (lacks_same number (children os p) (not_among 0 number os p rise
      (λ (x : Object) is under. apart (ap (λ (y : Object). y.parent) (same_Some o x (sym live ∙ is)) ∙ under))))
      ∙ sym (removed_children number os p)
]

-- ---- the next one

pub next_is : (os : List Object) (parent above : ℕ) → find (nat_lt above) (children os parent)
    ≡ next_child os parent above
unfolding next_child
next_is [] parent above = refl
next_is (x ∷ xs) parent above = elim (cases_Bool (nat_eq x.parent parent)) [
  | inl child ↦ elim (cases_Bool (nat_lt above x.number)) [
    | inl more ↦ rw (child, more) refl
    | inr less ↦ rw (child, less) (next_is xs parent above)
  ]
  | inr other ↦ rw other (next_is xs parent above)
]
