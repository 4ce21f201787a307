-- What the pending list covers, after a mark and after the head's cursor moved.
use Rattle.std.proofs.Common.{◌≡◌, ℕ, ◌<◌, Bool, true, false, List, [], ◌∷◌, inl, inr, refl, sym, subst, ap, ◌∙◌}
use Rattle.std.specs.Prelude.{nat_eq, nat_lt, ◌&&◌, ◌||◌}
use Rattle.std.specs.List.{list_any, AllByRecursion}
use Rattle.std.proofs.lemmas.Bool.{eqb-true, eqb-false, eq-eqb, ne_eqb, ltb-true, lt-ltb, cases_Bool, or_right}
use Rattle.std.proofs.lemmas.Bool.{or_cases, and_parts}
use Rattle.ad_sd.specs.declared.parts.Sd.{Sd}
use Rattle.prop_queue.specs.declared.pending.Pending.{Pending}
use Rattle.prop_queue.specs.Pending.{AreDistinct, marked, advanced}
use Rattle.prop_queue.proofs.Distinct.{distinct-marked}
use Rattle.ad_dir_model.specs.Object.{Object}
use Rattle.ad_dir_model.specs.Objects.{is_live}
use Rattle.ad_dir_model.specs.SameSd.{same_sd}
use Rattle.ad_dir_model.specs.Inheritance.{covers, marked_if_changed}

-- ---- what an entry covers

abbrev pub covers_by : ℕ → ℕ → Pending → Bool
covers_by parent child entry = nat_eq entry.parent parent && nat_lt entry.cursor child

-- the other parents' entries stay
pub marked_other : (n parent child : ℕ) (pending : List Pending) → (n ≡ parent → ⊥) → covers (marked n pending) parent
    child ≡ covers pending parent child
unfolding covers
marked_other n parent child [] apart = rw (ne_eqb n parent apart) refl
marked_other n parent child (e ∷ es) apart =
    elim (cases_Bool (nat_eq e.parent n)) [
      | inl same ↦
          let is : e.parent ≡ n = eqb-true e.parent n same in
          let other : e.parent ≡ parent → ⊥ = λ (p : e.parent ≡ parent). apart (sym is ∙ p) in
          rw (same, ne_eqb n parent apart, ne_eqb e.parent parent other) refl
      | inr differ ↦ rw differ (ap (λ (rest : Bool). covers_by parent child e || rest)
          (marked_other n parent child es apart))
    ]

-- a marked parent covers each of its children
pub marked_same : (n child : ℕ) (pending : List Pending) → 0 < child → covers (marked n pending) n child ≡ true
unfolding covers
marked_same n child [] above = rw (eq-eqb n n refl, lt-ltb 0 child above) refl
marked_same n child (e ∷ es) above =
    elim (cases_Bool (nat_eq e.parent n)) [
      | inl same ↦ rw (same, eq-eqb n n refl, lt-ltb 0 child above) refl
      | inr differ ↦ rw differ (or_right (covers_by n child e) (covers (marked n es) n child)
          (marked_same n child es above))
    ]

-- what is covered stays so
pub marked_keeps : (n parent child : ℕ) (pending : List Pending) → 0 < child → covers pending parent child ≡ true
    → covers (marked n pending) parent child ≡ true
marked_keeps n parent child pending above covered =
    elim (cases_Bool (nat_eq n parent)) [
      | inl same ↦ subst (λ (p : ℕ). covers (marked n pending) p child ≡ true) (eqb-true n parent same)
          (marked_same n child pending above)
      | inr differ ↦ marked_other n parent child pending (eqb-false n parent differ) ∙ covered
    ]

pub marked_if_keeps : (before : Sd) (o : Object) (parent child : ℕ) (pending : List Pending) → 0 < child
    → covers pending parent child ≡ true → covers (marked_if_changed before o pending) parent child ≡ true
unfolding marked_if_changed
marked_if_keeps before o parent child pending above covered =
    elim (cases_Bool (same_sd before o.sd)) [
      | inl same ↦ rw same covered
      | inr differ ↦ rw differ (marked_keeps o.number parent child pending above covered)
    ]

pub marked_if_changed_covers : (before : Sd) (o : Object) (child : ℕ) (pending : List Pending) → 0 < child
    → same_sd before o.sd ≡ false → covers (marked_if_changed before o pending) o.number child ≡ true
unfolding marked_if_changed
marked_if_changed_covers before o child pending above differ = rw differ (marked_same o.number child pending above)

-- the head's cursor moves to c: what is covered stays so, but for its children up to c
pub advanced_keeps : (head : Pending) (others : List Pending) (c parent child : ℕ)
    → (parent ≡ head.parent → head.cursor < child → c < child)
    → covers (head ∷ others) parent child ≡ true → covers (advanced c (head ∷ others)) parent child ≡ true
unfolding covers
advanced_keeps head others c parent child passed covered =
    elim (or_cases (covers_by parent child head) (list_any (covers_by parent child) others) covered) [
      | inl by_head ↦
          let parts = and_parts (nat_eq head.parent parent) (nat_lt head.cursor child) by_head in
          let is : head.parent ≡ parent = eqb-true head.parent parent parts.0 in
          let more : c < child = passed (sym is) (ltb-true head.cursor child parts.1) in
          rw (parts.0, lt-ltb c child more) refl
      | inr by_others ↦ or_right (nat_eq head.parent parent && nat_lt c child)
          (list_any (covers_by parent child) others) by_others
    ]

-- the head goes: what is covered stays so, but for its children above its cursor
pub dropped_keeps : (head : Pending) (others : List Pending) (parent child : ℕ)
    → (parent ≡ head.parent → head.cursor < child → ⊥)
    → covers (head ∷ others) parent child ≡ true → covers others parent child ≡ true
unfolding covers
dropped_keeps head others parent child none covered =
    elim (or_cases (covers_by parent child head) (list_any (covers_by parent child) others) covered) [
      | inl by_head ↦
          let parts = and_parts (nat_eq head.parent parent) (nat_lt head.cursor child) by_head in
          absurd (none (sym (eqb-true head.parent parent parts.0)) (ltb-true head.cursor child parts.1))
      | inr by_others ↦ by_others
    ]

-- nothing pending covers nothing
pub nothing_covered : (pending : List Pending) (parent child : ℕ) → pending ≡ [] → covers pending parent child ≡ false
unfolding covers
nothing_covered pending parent child none = rw none refl

-- ---- parents are live and distinct

abbrev pub AreLive : List Object → List Pending → Type 0
AreLive objects pending = AllByRecursion (λ entry. is_live objects entry.parent ≡ true) pending

pub live_marked : (objects : List Object) (n : ℕ) (pending : List Pending) → is_live objects n ≡ true
    → AreLive objects pending → AreLive objects (marked n pending)
live_marked objects n [] live all = (live, tt)
live_marked objects n (e ∷ es) live all =
    elim (cases_Bool (nat_eq e.parent n)) [
      | inl same ↦ rw same (live, all.1)
      | inr differ ↦ rw differ (all.0, live_marked objects n es live all.1)
    ]

pub live_marked_if : (objects : List Object) (before : Sd) (o : Object) (pending : List Pending)
    → is_live objects o.number ≡ true → AreLive objects pending → AreLive objects (marked_if_changed before o pending)
unfolding marked_if_changed
live_marked_if objects before o pending live all =
    elim (cases_Bool (same_sd before o.sd)) [
      | inl same ↦ rw same all
      | inr differ ↦ rw differ (live_marked objects o.number pending live all)
    ]

pub distinct_marked_if : (before : Sd) (o : Object) (pending : List Pending) → AreDistinct pending
    → AreDistinct (marked_if_changed before o pending)
unfolding marked_if_changed
distinct_marked_if before o pending distinct =
    elim (cases_Bool (same_sd before o.sd)) [
      | inl same ↦ rw same distinct
      | inr differ ↦ rw differ (distinct-marked pending o.number distinct)
    ]

pub live_advanced : (objects : List Object) (c : ℕ) (pending : List Pending) → AreLive objects pending
    → AreLive objects (advanced c pending)
live_advanced objects c [] all = tt
live_advanced objects c (head ∷ others) all = all

pub distinct_advanced : (c : ℕ) (pending : List Pending) → AreDistinct pending → AreDistinct (advanced c pending)
distinct_advanced c [] distinct = tt
distinct_advanced c (head ∷ others) distinct = distinct

-- in a list of more live objects they are live too
pub live_in_more : (objects more : List Object) (pending : List Pending)
    → ((n : ℕ) → is_live objects n ≡ true → is_live more n ≡ true) → AreLive objects pending → AreLive more pending
live_in_more objects more [] keeps all = tt
live_in_more objects more (e ∷ es) keeps all = (keeps e.parent all.0, live_in_more objects more es keeps all.1)
