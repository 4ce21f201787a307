-- No parent is pending twice, whatever is done to the list.
use Rattle.std.proofs.Common.{◌≡◌, ℕ, zero, suc, ◌<◌, Bool, true, false, not, cond, List, [], ◌∷◌, length, get_or}
use Rattle.std.proofs.Common.{refl, sym, subst, arith}
use Rattle.std.specs.Prelude.{nat_eq, if◌then◌else◌}
use Rattle.std.proofs.lemmas.Bool.{eqb-true, eq-eqb, ne_eqb, or_parts, or_from}
use Rattle.prop_queue.specs.declared.pending.Pending.{Pending}
use Rattle.prop_queue.specs.Pending.{is_of, is_pending, AreDistinct, from_the_start, marked, without}
use Rattle.prop_queue.specs.Places.{StandsAt}

pub other_way : (a b : ℕ) → nat_eq a b ≡ false → nat_eq b a ≡ false
other_way a b apart = ne_eqb b a (λ same. let equal : nat_eq a b ≡ true = eq-eqb a b (sym same) in absurd (cc))

-- marking one parent makes no other pending
pending-marked : (other parent : ℕ) (queue : List Pending) → nat_eq parent other ≡ false → is_pending other queue
    ≡ false → is_pending other (marked parent queue) ≡ false
pending-marked other parent [] apart none = or_from (nat_eq parent other) false apart refl
pending-marked other parent (e ∷ es) apart none =
    let parts = or_parts (is_of other e) (is_pending other es) none in
    by_test (is_of parent e) parts.0 parts.1 (pending-marked other parent es apart parts.1)
  where
    by_test : (b : Bool) → is_of other e ≡ false → is_pending other es ≡ false → is_pending other (marked parent es)
        ≡ false → is_pending other (if b then from_the_start parent ∷ es else e ∷ marked parent es) ≡ false
    by_test true first rest marked_rest = or_from (nat_eq parent other) (is_pending other es) apart rest
    by_test false first rest marked_rest = or_from (is_of other e) (is_pending other (marked parent es)) first
        marked_rest

pub distinct-marked : (queue : List Pending) (parent : ℕ) → AreDistinct queue → AreDistinct (marked parent queue)
distinct-marked [] parent distinct = (refl, tt)
distinct-marked (e ∷ es) parent distinct = by_test (is_of parent e) refl (distinct-marked es parent distinct.1)
  where
    by_test : (b : Bool) → is_of parent e ≡ b → AreDistinct (marked parent es)
        → AreDistinct (if b then from_the_start parent ∷ es else e ∷ marked parent es)
    by_test true here rest = (
      subst (λ (n : ℕ). is_pending n es ≡ false) (eqb-true e.parent parent here) distinct.0,
      distinct.1,
    )
    by_test false other rest = (pending-marked e.parent parent es (other_way e.parent parent other) distinct.0, rest)

pending-without : (other parent : ℕ) (queue : List Pending) → is_pending other queue ≡ false
    → is_pending other (without parent queue) ≡ false
pending-without other parent [] none = refl
pending-without other parent (e ∷ es) none =
    let parts = or_parts (is_of other e) (is_pending other es) none in
    by_test (is_of parent e) parts.0 (pending-without other parent es parts.1)
  where
    by_test : (b : Bool) → is_of other e ≡ false → is_pending other (without parent es) ≡ false
        → is_pending other (cond (not b) (e ∷ without parent es) (without parent es)) ≡ false
    by_test true first rest = rest
    by_test false first rest = or_from (is_of other e) (is_pending other (without parent es)) first rest

pub distinct-without : (queue : List Pending) (parent : ℕ) → AreDistinct queue → AreDistinct (without parent queue)
distinct-without [] parent distinct = tt
distinct-without (e ∷ es) parent distinct = by_test (is_of parent e) (distinct-without es parent distinct.1)
  where
    by_test : (b : Bool) → AreDistinct (without parent es)
        → AreDistinct (cond (not b) (e ∷ without parent es) (without parent es))
    by_test true rest = rest
    by_test false rest = (pending-without e.parent parent es distinct.0, rest)

-- what was taken out isn't pending
pub absent-without : (parent : ℕ) (queue : List Pending) → is_pending parent (without parent queue) ≡ false
absent-without parent [] = refl
absent-without parent (e ∷ es) = by_test (is_of parent e) refl (absent-without parent es)
  where
    by_test : (b : Bool) → is_of parent e ≡ b → is_pending parent (without parent es) ≡ false
        → is_pending parent (cond (not b) (e ∷ without parent es) (without parent es)) ≡ false
    by_test true here rest = rest
    by_test false other rest = or_from (is_of parent e) (is_pending parent (without parent es)) other rest

-- an entry's parent isn't that of another entry after it
apart_at : (parent : ℕ) (queue : List Pending) (k : ℕ) (d : Pending) → is_pending parent queue ≡ false → k
    < length queue → nat_eq (get_or queue k d).parent parent ≡ false
apart_at parent [] k d none lt = absurd (omega arith)
apart_at parent (e ∷ es) zero d none lt = (or_parts (is_of parent e) (is_pending parent es) none).0
apart_at parent (e ∷ es) (suc k) d none lt = let rest : k < length es = omega arith in apart_at parent es k d
    (or_parts (is_of parent e) (is_pending parent es) none).1 rest

-- where an entry of the parent stands, the first one does
pub only_stands : (parent : ℕ) (queue : List Pending) (k : ℕ) (d : Pending) → AreDistinct queue → k < length queue
    → is_of parent (get_or queue k d) ≡ true → StandsAt parent k queue
only_stands parent [] k d distinct lt here = absurd (omega arith)
only_stands parent (e ∷ es) zero d distinct lt here = here
only_stands parent (e ∷ es) (suc k) d distinct lt here =
    let rest : k < length es = omega arith in
    let same : (get_or es k d).parent ≡ parent = eqb-true (get_or es k d).parent parent here in (
      other_way parent e.parent (subst (λ (n : ℕ). nat_eq n e.parent ≡ false) same
          (apart_at e.parent es k d distinct.0 rest)),
      only_stands parent es k d distinct.1 rest here,
    )
