-- Where a parent stands in the list, and what the calls do there.
use Rattle.std.proofs.Common.{◌≡◌, ℕ, zero, suc, ◌+◌, ◌<◌, Bool, true, false, not, ◌||◌, cond, Option, None, Some}
use Rattle.std.proofs.Common.{List, [], ◌∷◌, ◌++◌, length, get_or, set, refl, ap, sym, subst, ◌∙◌, arith}
use Rattle.std.specs.Prelude.{if◌then◌else◌}
use Rattle.std.specs.List.{position_from, remove}
use Rattle.std.proofs.lemmas.Bool.{eqb-true, or_parts}
use Rattle.prop_queue.specs.declared.pending.Pending.{Pending}
use Rattle.prop_queue.specs.Pending.{is_of, is_pending, AreDistinct, from_the_start, marked, without}
use Rattle.prop_queue.specs.Places.{StandsAt, IsFoundAt}

pub stands_within : (parent place : ℕ) (queue : List Pending) → StandsAt parent place queue → place < length queue
stands_within parent place [] s = absurd s
stands_within parent zero (e ∷ es) s = omega arith
stands_within parent (suc place) (e ∷ es) s = let rest : place < length es = stands_within parent place es s.1
    in omega arith

-- what stands somewhere is pending
pub stands_pending : (parent place : ℕ) (queue : List Pending) → StandsAt parent place queue → is_pending parent queue
    ≡ true
stands_pending parent place [] s = absurd s
stands_pending parent zero (e ∷ es) s = ap (λ (b : Bool). b || is_pending parent es) s
stands_pending parent (suc place) (e ∷ es) s = ap (λ (b : Bool). b || is_pending parent es) s.0
    ∙ stands_pending parent place es s.1

-- the first place that a search finds, where the list begins at place i
FoundFrom : ℕ → ℕ → List Pending → Option ℕ → Type 0
FoundFrom i parent queue None = is_pending parent queue ≡ false
FoundFrom i parent queue (Some k) = (place : ℕ) × ((k ≡ i + place) × StandsAt parent place queue)

found_behind : (i parent : ℕ) (e : Pending) (es : List Pending) (found : Option ℕ) → is_of parent e ≡ false
    → FoundFrom (i + 1) parent es found → FoundFrom i parent (e ∷ es) found
unfolding FoundFrom
found_behind i parent e es None other f = ap (λ (b : Bool). b || is_pending parent es) other ∙ f
found_behind i parent e es (Some k) other f = let at : k ≡ (i + 1) + f.0 = f.1.0
    in (suc f.0, (omega arith, (other, f.1.1)))

found_from : (i parent : ℕ) (queue : List Pending) → FoundFrom i parent queue (position_from (is_of parent) i queue)
unfolding FoundFrom
found_from i parent [] = refl
found_from i parent (e ∷ es) = by_test (is_of parent e) refl (found_from (i + 1) parent es)
  where
    by_test : (b : Bool) → is_of parent e ≡ b → FoundFrom (i + 1) parent es (position_from (is_of parent) (i + 1) es)
        → FoundFrom i parent (e ∷ es) (cond b (Some i) (position_from (is_of parent) (i + 1) es))
    by_test true here rest = (0, (omega arith, here))
    by_test false other rest = found_behind i parent e es (position_from (is_of parent) (i + 1) es) other rest

pub first_place : (parent : ℕ) (queue : List Pending) (found : Option ℕ) → found ≡ position_from (is_of parent) 0
    queue → IsFoundAt found parent queue
unfolding FoundFrom
first_place parent queue found is = placed found (subst (FoundFrom 0 parent queue) (sym is) (found_from 0 parent queue))
  where
    placed : (r : Option ℕ) → FoundFrom 0 parent queue r → IsFoundAt r parent queue
    placed None f = f
    placed (Some k) f = let same : f.0 ≡ k = omega (arith, f.1.0) in subst (λ (n : ℕ). StandsAt parent n queue) same
        f.1.1

-- a mark at the place of the parent
pub set-marked : (parent place : ℕ) (queue : List Pending) (entry : Pending) → StandsAt parent place queue → entry
    ≡ get_or queue place entry → set queue place (from_the_start entry.parent) ≡ marked parent queue
set-marked parent place [] entry s is = absurd s
set-marked parent zero (e ∷ es) entry s is =
    ap (λ (n : ℕ). from_the_start n ∷ es) (ap (λ (x : Pending). x.parent) is ∙ eqb-true e.parent parent s)
    ∙ sym (ap (λ (b : Bool). if b then from_the_start parent ∷ es else e ∷ marked parent es) s)
set-marked parent (suc place) (e ∷ es) entry s is =
    ap (λ (xs : List Pending). e ∷ xs) (set-marked parent place es entry s.1 is)
    ∙ sym (ap (λ (b : Bool). if b then from_the_start parent ∷ es else e ∷ marked parent es) s.0)

-- a mark of another parent
pub push-marked : (parent : ℕ) (queue : List Pending) → is_pending parent queue ≡ false → queue
    ++ from_the_start parent ∷ [] ≡ marked parent queue
push-marked parent [] none = refl
push-marked parent (e ∷ es) none =
    let parts = or_parts (is_of parent e) (is_pending parent es) none in
    ap (λ (xs : List Pending). e ∷ xs) (push-marked parent es parts.1)
    ∙ sym (ap (λ (b : Bool). if b then from_the_start parent ∷ es else e ∷ marked parent es) parts.0)

-- nothing to take out
pub without-absent : (parent : ℕ) (queue : List Pending) → is_pending parent queue ≡ false → without parent queue
    ≡ queue
without-absent parent [] none = refl
without-absent parent (e ∷ es) none =
    let parts = or_parts (is_of parent e) (is_pending parent es) none in
    ap (λ (b : Bool). cond (not b) (e ∷ without parent es) (without parent es)) parts.0
    ∙ ap (λ (xs : List Pending). e ∷ xs) (without-absent parent es parts.1)

-- the only entry of the parent taken out
pub remove-without : (parent place : ℕ) (queue : List Pending) → StandsAt parent place queue → AreDistinct queue
    → remove queue place ≡ without parent queue
remove-without parent place [] s distinct = absurd s
remove-without parent zero (e ∷ es) s distinct =
    let none : is_pending parent es ≡ false = subst (λ (n : ℕ). is_pending n es ≡ false) (eqb-true e.parent parent s)
    distinct.0 in
    sym (without-absent parent es none)
    ∙ sym (ap (λ (b : Bool). cond (not b) (e ∷ without parent es) (without parent es)) s)
remove-without parent (suc place) (e ∷ es) s distinct =
    ap (λ (xs : List Pending). e ∷ xs) (remove-without parent place es s.1 distinct.1)
    ∙ sym (ap (λ (b : Bool). cond (not b) (e ∷ without parent es) (without parent es)) s.0)
