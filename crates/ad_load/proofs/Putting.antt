-- A value put among those that an object has.
use Rattle.std.proofs.Common.{◌≡◌, ℕ, zero, suc, ◌+◌, ◌<◌, ◌≤◌, nat_lt, nat_le, Bool, true, false, Some, None}
use Rattle.std.proofs.Common.{inl, inr, Result, Ok, Err, OnOk, List, [], ◌∷◌, ◌++◌, length, map, get_or, set}
use Rattle.std.proofs.Common.{insert, refl, sym, ap, subst, ◌∙◌, arith}
use Rattle.std.specs.Prelude.{◌==◌, position, cond, not}
use Rattle.std.specs.List.{prefix_len}
use Rattle.std.proofs.lemmas.Option.{none-some, same_Some}
use Rattle.std.proofs.lemmas.Bool.{cases_Bool, eqb-true, eqb-false, eq-eqb, ne_eqb, leb-true, leb-false, lt-ltb}
use Rattle.std.proofs.lemmas.Bool.{ltb-true, ltb-false, false_from_ne_true}
use Rattle.std.proofs.lemmas.List.{map-append}
use Rattle.ad_schema.specs.declared.info.AttrId.{AttrId}
use Rattle.ad_dir_objects.specs.declared.object.Stored.{Stored as StoredIn}
use Rattle.ad_dir_objects.specs.Seen.{stored_seen, held_seen}
use Rattle.ad_dir_model.specs.Object.{Stored, Held}
use Rattle.ad_load.specs.Links.{with_stored}
use Rattle.ad_load.specs.Seen.{with_stored_at}

abbrev pub Values : Type 0
Values = AttrId × List StoredIn

pub ok_map : {A E : Type 0} {P Q : Type 0} (r : Result A E) → (P → Q) → OnOk r P → OnOk r Q
ok_map (Ok x) f p = f p
ok_map (Err e) f p = p

pub put_same : (xs : List Values) (place attr : ℕ) (item : Values) (new : List StoredIn) (v : StoredIn)
    → place < length xs → item ≡ get_or xs place item → item.0.0 ≡ attr → new ≡ item.1 ++ v ∷ []
    → map held_seen (set xs place (item.0, new)) ≡ with_stored_at place attr (stored_seen v) (map held_seen xs)
unfolding with_stored_at
put_same [] place attr item new v lt is own e = absurd (omega (arith, lt))
put_same (x ∷ xs) zero attr item new v lt is own e =
    let same : (x.0.0 == attr) ≡ true = eq-eqb x.0.0 attr (ap (λ (y : Values). y.0.0) (sym is) ∙ own) in
    let values : map stored_seen new ≡ map stored_seen x.1 ++ stored_seen v
    ∷ [] = ap (map stored_seen) (e ∙ ap (λ (y : Values). y.1 ++ v ∷ []) is)
    ∙ map-append stored_seen x.1 (v ∷ []) in
    rw same (
    ap (λ (y : Values). held_seen (y.0, new) ∷ map held_seen xs) is
    ∙ ap (λ (vs : List Stored). record { attr = x.0.0; values = vs } ∷ map held_seen xs) values
    )
put_same (x ∷ xs) (suc place) attr item new v lt is own e = ap (λ (hs : List Held). held_seen x ∷ hs)
    (put_same xs place attr item new v (omega (arith, lt)) is own e)

pub put_new : (xs : List Values) (place attr : ℕ) (item held : Values) (v : StoredIn) → place < length xs
    → item ≡ get_or xs place item → (item.0.0 ≡ attr → ⊥)
    → held_seen held ≡ record { attr = attr; values = stored_seen v ∷ [] }
    → map held_seen (insert xs place held) ≡ with_stored_at place attr (stored_seen v) (map held_seen xs)
unfolding with_stored_at
put_new [] place attr item held v lt is other e = absurd (omega (arith, lt))
put_new (x ∷ xs) zero attr item held v lt is other e =
    let differ : (x.0.0 == attr) ≡ false = ne_eqb x.0.0 attr (λ q. other (ap (λ (y : Values). y.0.0) is ∙ q)) in
    rw differ (ap (λ (h : Held). h ∷ held_seen x ∷ map held_seen xs) e)
put_new (x ∷ xs) (suc place) attr item held v lt is other e = ap (λ (hs : List Held). held_seen x ∷ hs)
    (put_new xs place attr item held v (omega (arith, lt)) is other e)

pub same_item : (xs : List Values) (place : ℕ) (a b : Values) → place < length xs → a ≡ get_or xs place a → b
    ≡ get_or xs place b → a ≡ b
same_item [] place a b lt p q = absurd (omega (arith, lt))
same_item (x ∷ xs) zero a b lt p q = p ∙ sym q
same_item (x ∷ xs) (suc place) a b lt p q = same_item xs place a b (omega (arith, lt)) p q

-- ---- the place among the attributes

abbrev below : ℕ → Values → Bool
below attr held = not (nat_le attr held.0.0)

skipped : (attr : ℕ) (v : Stored) (h : Held) (hs : List Held) → (h.attr == attr) ≡ false
    → nat_lt attr h.attr ≡ false → with_stored attr v (h ∷ hs) ≡ h ∷ with_stored attr v hs
unfolding with_stored
skipped attr v h hs differ not_above = rw (differ, not_above) refl

prefix_next : (attr : ℕ) (x : Values) (xs : List Values) → nat_le attr x.0.0 ≡ false → prefix_len (below attr)
    (x ∷ xs) ≡ suc (prefix_len (below attr) xs)
prefix_next attr x xs e = ap (λ (b : Bool). cond (not b) (1 + prefix_len (below attr) xs) 0) e
    ∙ (let next : 1 + prefix_len (below attr) xs ≡ suc (prefix_len (below attr) xs) = omega arith in next)

prefix_here : (attr : ℕ) (x : Values) (xs : List Values) → nat_le attr x.0.0 ≡ true → prefix_len (below attr) (x ∷ xs)
    ≡ 0
prefix_here attr x xs e = ap (λ (b : Bool). cond (not b) (1 + prefix_len (below attr) xs) 0) e

at_prefix : (xs : List Values) (attr : ℕ) (v : Stored) → prefix_len (below attr) xs < length xs
    → with_stored_at (prefix_len (below attr) xs) attr v (map held_seen xs) ≡ with_stored attr v (map held_seen xs)
unfolding with_stored_at with_stored
at_prefix [] attr v lt = absurd (omega (arith, lt))
at_prefix (x ∷ xs) attr v lt = elim (cases_Bool (nat_le attr x.0.0)) [
  | inl here ↦
      let le : attr ≤ x.0.0 = leb-true attr x.0.0 here in
      elim (cases_Bool (x.0.0 == attr)) [
        | inl same ↦ rw (here, same) (ap (λ (n : ℕ). record { attr = n; values = map stored_seen x.1 ++ v ∷ [] }
            ∷ map held_seen xs) (eqb-true x.0.0 attr same))
        | inr differ ↦
            let other : x.0.0 ≡ attr → ⊥ = eqb-false x.0.0 attr differ in
            let above : nat_lt attr x.0.0 ≡ true = lt-ltb attr x.0.0 (omega (arith, le, other)) in
            rw (here, differ, above) refl
      ]
  | inr later ↦
      let less : x.0.0 < attr = leb-false attr x.0.0 later in
      let differ : (x.0.0 == attr) ≡ false = ne_eqb x.0.0 attr (λ e. omega (arith, less, e)) in
      let not_above : nat_lt attr x.0.0 ≡ false = false_from_ne_true (nat_lt attr x.0.0)
      (λ e. let l : attr < x.0.0 = ltb-true attr x.0.0 e in omega (arith, l, less)) in
      let next : prefix_len (below attr) (x ∷ xs) ≡ suc (prefix_len (below attr) xs) = prefix_next attr x xs later in
      let more : prefix_len (below attr) xs < length xs = omega (arith, lt, next) in
      ap (λ (n : ℕ). with_stored_at n attr v (held_seen x ∷ map held_seen xs)) next
      ∙ ap (λ (hs : List Held). held_seen x ∷ hs) (at_prefix xs attr v more)
      ∙ sym (skipped attr v (held_seen x) (map held_seen xs) differ not_above)
]

at_end : (xs : List Values) (attr : ℕ) (v : Stored) → length xs ≤ prefix_len (below attr) xs
    → with_stored attr v (map held_seen xs) ≡ map held_seen xs ++ record { attr = attr; values = v ∷ [] } ∷ []
unfolding with_stored
at_end [] attr v le = refl
at_end (x ∷ xs) attr v le = elim (cases_Bool (nat_le attr x.0.0)) [
  | inl here ↦
      let none : prefix_len (below attr) (x ∷ xs) ≡ 0 = prefix_here attr x xs here in
      absurd (omega (arith, le, none))
  | inr later ↦
      let less : x.0.0 < attr = leb-false attr x.0.0 later in
      let differ : (x.0.0 == attr) ≡ false = ne_eqb x.0.0 attr (λ e. omega (arith, less, e)) in
      let not_above : nat_lt attr x.0.0 ≡ false = false_from_ne_true (nat_lt attr x.0.0)
      (λ e. let l : attr < x.0.0 = ltb-true attr x.0.0 e in omega (arith, l, less)) in
      let next : prefix_len (below attr) (x ∷ xs) ≡ suc (prefix_len (below attr) xs) = prefix_next attr x xs later in
      skipped attr v (held_seen x) (map held_seen xs) differ not_above
      ∙ ap (λ (hs : List Held). held_seen x ∷ hs) (at_end xs attr v (omega (arith, le, next)))
]

placed : (n m place : ℕ) → cond (nat_lt n m) (Some n) None ≡ Some place → (n < m) × (n ≡ place)
placed n m place e = elim (cases_Bool (nat_lt n m)) [
  | inl less ↦ (ltb-true n m less, same_Some n place (rw less at e))
  | inr more ↦ absurd (none-some place (rw more at e))
]

not_placed : (n m : ℕ) → cond (nat_lt n m) (Some n) None ≡ None → m ≤ n
not_placed n m e = elim (cases_Bool (nat_lt n m)) [
  | inl less ↦ let some : Some n ≡ None = rw less at e in absurd cc
  | inr more ↦ ltb-false n m more
]

pub stored_at : (xs : List Values) (place attr : ℕ) (v : Stored)
    → position (λ (held : Values). nat_le attr held.0.0) xs ≡ Some place
    → with_stored_at place attr v (map held_seen xs) ≡ with_stored attr v (map held_seen xs)
stored_at xs place attr v e =
    let p = placed (prefix_len (below attr) xs) (length xs) place e in
    subst (λ (n : ℕ). with_stored_at n attr v (map held_seen xs) ≡ with_stored attr v (map held_seen xs)) p.1
    (at_prefix xs attr v p.0)

pub stored_last : (xs : List Values) (attr : ℕ) (v : Stored)
    → position (λ (held : Values). nat_le attr held.0.0) xs ≡ None
    → with_stored attr v (map held_seen xs) ≡ map held_seen xs ++ record { attr = attr; values = v ∷ [] } ∷ []
stored_last xs attr v e = at_end xs attr v (not_placed (prefix_len (below attr) xs) (length xs) e)
