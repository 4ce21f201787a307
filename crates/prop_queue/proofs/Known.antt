-- What the numbers of the parents tell, and that each pending parent keeps its number.
use Rattle.std.proofs.Common.{◌≡◌, ℕ, Bool, true, false, not, ◌||◌, cond, Option, None, Some, List, [], ◌∷◌, ◌++◌}
use Rattle.std.proofs.Common.{refl, ap, sym, subst, ◌∙◌}
use Rattle.std.specs.Prelude.{nat_eq, if◌then◌else◌}
use Rattle.std.specs.Option.{is_some}
use Rattle.std.specs.HashMap.{get}
use Rattle.std.proofs.lemmas.Bool.{eqb-true, or_parts, or_from}
use Rattle.prop_queue.specs.declared.pending.Pending.{Pending}
use Rattle.prop_queue.specs.Pending.{is_of, is_pending, from_the_start, marked, without}
use Rattle.prop_queue.specs.Numbers.{Numbers, AreKnown, AreKnownIf}
use Rattle.prop_queue.proofs.Distinct.{other_way}

has_number : Numbers → ℕ → Bool
has_number numbers parent = is_some (get nat_eq numbers parent)

-- one parent more has a number
pub known-push : (before after : Numbers) (number : ℕ) (queue : List Pending) (entry : Pending)
    → ((k : ℕ) → nat_eq entry.parent k ≡ false → get nat_eq after k ≡ get nat_eq before k)
    → get nat_eq after entry.parent ≡ Some number → AreKnown before queue → AreKnown after (queue ++ entry ∷ [])
known-push before after number [] entry others new known = (ap is_some new, tt)
known-push before after number (e ∷ es) entry others new known
    = (by_test (nat_eq entry.parent e.parent) refl, known-push before after number es entry others new known.1)
  where
    by_test : (b : Bool) → nat_eq entry.parent e.parent ≡ b → is_some (get nat_eq after e.parent) ≡ true
    by_test true same = ap is_some (subst (λ (n : ℕ). get nat_eq after n ≡ Some number)
        (eqb-true entry.parent e.parent same) new)
    by_test false apart = ap is_some (others e.parent apart) ∙ known.0

-- the number of a parent that isn't pending is of no use
pub known-less : (before after : Numbers) (parent : ℕ) (queue : List Pending)
    → ((k : ℕ) → nat_eq parent k ≡ false → get nat_eq after k ≡ get nat_eq before k) → is_pending parent queue ≡ false
    → AreKnown before queue → AreKnown after queue
known-less before after parent [] others none known = tt
known-less before after parent (e ∷ es) others none known =
    let parts = or_parts (is_of parent e) (is_pending parent es) none in (
      ap is_some (others e.parent (other_way e.parent parent parts.0)) ∙ known.0,
      known-less before after parent es
          others parts.1 known.1,
    )

-- a parent without a number isn't pending
pub unknown_absent : (numbers : Numbers) (parent : ℕ) (queue : List Pending) → get nat_eq numbers parent ≡ None
    → AreKnown numbers queue → is_pending parent queue ≡ false
unknown_absent numbers parent [] none known = refl
unknown_absent numbers parent (e ∷ es) none known = or_from (is_of parent e) (is_pending parent es)
    (by_test (is_of parent e) refl) (unknown_absent numbers parent es none known.1)
  where
    by_test : (b : Bool) → is_of parent e ≡ b → is_of parent e ≡ false
    by_test true same =
        let lost : is_some (get nat_eq numbers e.parent) ≡ false
        = ap is_some (subst (λ (n : ℕ). get nat_eq numbers n ≡ None) (sym (eqb-true e.parent parent same)) none)
        in
        let clash : true ≡ false = sym known.0 ∙ lost in absurd (cc)
    by_test false apart = apart

pub known-marked : (numbers : Option Numbers) (parent : ℕ) (queue : List Pending) → is_pending parent queue ≡ true
    → AreKnownIf numbers queue → AreKnownIf numbers (marked parent queue)
known-marked None parent queue pending known = tt
known-marked (Some numbers) parent [] pending known = absurd (cc)
known-marked (Some numbers) parent (e ∷ es) pending known = by_test (is_of parent e) refl
    (λ p. known-marked (Some numbers) parent es p known.1)
  where
    by_test : (b : Bool) → is_of parent e ≡ b → (is_pending parent es ≡ true → AreKnown numbers (marked parent es))
        → AreKnown numbers (if b then from_the_start parent ∷ es else e ∷ marked parent es)
    by_test true here rest = (
      subst (λ (n : ℕ). is_some (get nat_eq numbers n) ≡ true) (eqb-true e.parent parent here)
          known.0,
      known.1,
    )
    by_test false other rest = (known.0, rest (sym (ap (λ (b : Bool). b || is_pending parent es) other) ∙ pending))

pub known-without : (numbers : Option Numbers) (parent : ℕ) (queue : List Pending) → AreKnownIf numbers queue
    → AreKnownIf numbers (without parent queue)
known-without None parent queue known = tt
known-without (Some numbers) parent [] known = tt
known-without (Some numbers) parent (e ∷ es) known = by_test (is_of parent e)
    (known-without (Some numbers) parent es known.1)
  where
    by_test : (b : Bool) → AreKnown numbers (without parent es)
        → AreKnown numbers (cond (not b) (e ∷ without parent es) (without parent es))
    by_test true rest = rest
    by_test false rest = (known.0, rest)

pub known-tail : (numbers : Option Numbers) (e : Pending) (es : List Pending) → AreKnownIf numbers (e ∷ es)
    → AreKnownIf numbers es
known-tail None e es known = tt
known-tail (Some numbers) e es known = known.1
