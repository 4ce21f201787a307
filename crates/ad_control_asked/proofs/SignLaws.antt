-- Whose nodes are told by a set of tokens and a sign.
use Rattle.std.proofs.Common.{◌≡◌, ◌∙◌, ◌⊎◌, inl, inr, ℕ, zero, suc, Bool, true, false, not, ◌&&◌, ◌||◌}
use Rattle.std.proofs.Common.{Option, Some, None}
use Rattle.std.proofs.Common.{List, [], ◌∷◌, set, refl, sym, ap}
use Rattle.std.specs.Prelude.{◌==◌, slice_get}
use Rattle.std.proofs.lemmas.Bool.{cases_Bool, eqb-true, eq-eqb, false≢true}
use Rattle.std.proofs.lemmas.Option.{get_or_from_slice_get}
use Rattle.std.proofs.lemmas.List.{get_or-set_other}
use Rattle.std.proofs.Math.Bool.{or-false, and-true}
use Rattle.ad_sets.specs.declared.told.Sign.{Sign}
use Rattle.ad_sets.specs.declared.told.Sign.TheVariants.{Same, With, Without}
use Rattle.ad_sets.specs.Told.{stands_in}
use Rattle.ad_control_asked.specs.Drawn.{IsNodeOf, IsTold}

-- ---- who is in a set

there : (members : List Bool) (place : ℕ) → stands_in members place ≡ true → slice_get members place ≡ Some true
there [] place is = absurd (false≢true is)
there (b ∷ members) zero is = ap (λ (c : Bool). Some c) is
there (b ∷ members) (suc place) is = there members place is

pub node_of : (members : List Bool) (at : List ℕ) (member x : ℕ) → stands_in members member ≡ true
    → slice_get at member ≡ Some x → IsNodeOf members at x
node_of members at member x is is_at =
    record { place = member; thing = true; is_thing = there members member is; is_at = is_at; passes = refl }

pub stands : (members : List Bool) (at : List ℕ) (x : ℕ) (is : IsNodeOf members at x)
    → stands_in members is.place ≡ true
stands members at x is = get_or_from_slice_get members is.place is.thing false is.is_thing ∙ is.passes

-- ---- the set alone

pub told_alone : (members : List Bool) (sign : Sign) (at : List ℕ) (x : ℕ) → IsNodeOf members at x
    → IsTold members sign None at x
told_alone members Same at x is =
    record { member = is.place; is_told = stands members at x is; is_at = is.is_at }
told_alone members With at x is =
    record { member = is.place; is_told = or-false _ ∙ stands members at x is; is_at = is.is_at }
told_alone members Without at x is =
    record { member = is.place; is_told = and-true _ ∙ stands members at x is; is_at = is.is_at }

pub alone_told : (members : List Bool) (sign : Sign) (at : List ℕ) (x : ℕ) → IsTold members sign None at x
    → IsNodeOf members at x
alone_told members Same at x told = node_of members at told.member x told.is_told told.is_at
alone_told members With at x told =
    node_of members at told.member x (sym (or-false _) ∙ told.is_told) told.is_at
alone_told members Without at x told =
    node_of members at told.member x (sym (and-true _) ∙ told.is_told) told.is_at

pub told_same : (members : List Bool) (own : Option ℕ) (at : List ℕ) (x : ℕ) → IsNodeOf members at x
    → IsTold members Same own at x
told_same members own at x is =
    record { member = is.place; is_told = stands members at x is; is_at = is.is_at }

pub same_told : (members : List Bool) (own : Option ℕ) (at : List ℕ) (x : ℕ) → IsTold members Same own at x
    → IsNodeOf members at x
same_told members own at x told = node_of members at told.member x told.is_told told.is_at

-- ---- with the object itself

or_true : (b : Bool) → b || true ≡ true
or_true true = refl
or_true false = refl

pub told_with : (members : List Bool) (own : ℕ) (at : List ℕ) (x : ℕ)
    → IsNodeOf members at x ⊎ (slice_get at own ≡ Some x) → IsTold members With (Some own) at x
told_with members own at x (inl is) = record {
  member = is.place;
  is_told = ap (λ (b : Bool). b || (own == is.place)) (stands members at x is);
  is_at = is.is_at;
}
told_with members own at x (inr is_at) = record {
  member = own;
  is_told = ap (λ (b : Bool). stands_in members own || b) (eq-eqb own own refl) ∙ or_true (stands_in members own);
  is_at = is_at;
}

pub with_told : (members : List Bool) (own : ℕ) (at : List ℕ) (x : ℕ) → IsTold members With (Some own) at x
    → IsNodeOf members at x ⊎ (slice_get at own ≡ Some x)
with_told members own at x told = elim (cases_Bool (stands_in members told.member)) [
  | inl is ↦ inl (node_of members at told.member x is told.is_at)
  | inr none ↦
      let own_is : own ≡ told.member
      = eqb-true own told.member (sym (ap (λ (b : Bool). b || (own == told.member)) none) ∙ told.is_told) in
      inr (ap (slice_get at) own_is ∙ told.is_at)
]

-- ---- without it

none_own : (members : List Bool) (own : ℕ) → stands_in (set members own false) own ≡ false
none_own [] own = refl
none_own (b ∷ members) zero = refl
none_own (b ∷ members) (suc own) = none_own members own

and_false : (b : Bool) → b && false ≡ false
and_false true = refl
and_false false = refl

rest_there : (members : List Bool) (own member : ℕ)
    → stands_in (set members own false) member ≡ stands_in members member && not (own == member)
rest_there members own member = elim (cases_Bool (own == member)) [
  | inl is ↦
      ap (stands_in (set members own false)) (sym (eqb-true own member is)) ∙ none_own members own
      ∙ sym (and_false (stands_in members member))
      ∙ ap (λ (b : Bool). stands_in members member && not b) (sym is)
  | inr isnt ↦
      get_or-set_other members own member false false
      (λ same. false≢true (sym isnt ∙ eq-eqb own member (sym same)))
      ∙ sym (and-true (stands_in members member))
      ∙ ap (λ (b : Bool). stands_in members member && not b) (sym isnt)
]

pub told_without : (members : List Bool) (own : ℕ) (at : List ℕ) (x : ℕ) → IsNodeOf (set members own false) at x
    → IsTold members Without (Some own) at x
told_without members own at x is = record {
  member = is.place;
  is_told = sym (rest_there members own is.place) ∙ stands (set members own false) at x is;
  is_at = is.is_at;
}

pub without_told : (members : List Bool) (own : ℕ) (at : List ℕ) (x : ℕ) → IsTold members Without (Some own) at x
    → IsNodeOf (set members own false) at x
without_told members own at x told =
    node_of (set members own false) at told.member x (rest_there members own told.member ∙ told.is_told) told.is_at
