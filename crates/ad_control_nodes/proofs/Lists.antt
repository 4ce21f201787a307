-- Where things stand in lists.
use Rattle.std.proofs.Common.{◌≡◌, ◌∙◌, ℕ, zero, suc, ◌<◌, Bool, true, Option, Some, List, [], ◌∷◌, ◌++◌, inl}
use Rattle.std.proofs.Common.{inr, refl, sym, ap, subst, arith, length, map}
use Rattle.std.specs.Prelude.{slice_get}
use Rattle.std.specs.List.{list_any, All, AllByRecursion}
use Rattle.std.proofs.lemmas.Bool.{false≢true, or_cases, or_left, or_right}
use Rattle.std.proofs.lemmas.Option.{same_Some, none-some, slice_get_within, get_or_from_slice_get}
use Rattle.ad_dir_model.specs.Directory.{Directory}
use Rattle.ad_control_graph.specs.declared.node.Node.{Node}
use Rattle.ad_control_graph.specs.Drawing.{AreBelow}
use Rattle.ad_control_nodes.specs.declared.ground.Ground.{Ground}
use Rattle.ad_control_nodes.specs.Ground.{IsGround}

pub front : {A : Type 0} (xs ys : List A) (place : ℕ) (x : A) → slice_get xs place ≡ Some x
    → slice_get (xs ++ ys) place ≡ Some x
front [] ys place x is = absurd (none-some x is)
front (y ∷ xs) ys zero x is = is
front (y ∷ xs) ys (suc place) x is = front xs ys place x is

pub behind : {A : Type 0} (xs ys : List A) (place : ℕ) (x : A) → slice_get ys place ≡ Some x
    → (p : ℕ) × (slice_get (xs ++ ys) p ≡ Some x)
behind [] ys place x is = (place, is)
behind (y ∷ xs) ys place x is = let b = behind xs ys place x is in (suc b.0, b.1)

pub within : {A : Type 0} (xs : List A) (place : ℕ) → place < length xs → (x : A) × (slice_get xs place ≡ Some x)
within [] place less = absurd (omega (arith, less))
within (x ∷ xs) zero less = (x, refl)
within (x ∷ xs) (suc place) less = within xs place (omega (arith, less))

-- what holds of all holds there
pub all_at : {A : Type 0} (P : A → Type 0) (xs : List A) (place : ℕ) (x : A) → All P xs
    → slice_get xs place ≡ Some x → P x
all_at P xs place x all is =
    subst P (get_or_from_slice_get xs place x x is) (all place x (slice_get_within xs place x is))

pub each_at : {A : Type 0} (P : A → Type 0) (xs : List A) (place : ℕ) (x : A) → AllByRecursion P xs
    → slice_get xs place ≡ Some x → P x
each_at P [] place x all is = absurd (none-some x is)
each_at P (y ∷ xs) zero x all is = subst P (same_Some y x is) all.0
each_at P (y ∷ xs) (suc place) x all is = each_at P xs place x all.1 is

-- one that passes a test
pub any_at : {A : Type 0} (test : A → Bool) (xs : List A) (place : ℕ) (x : A) → slice_get xs place ≡ Some x
    → test x ≡ true → list_any test xs ≡ true
any_at test [] place x is passes = absurd (none-some x is)
any_at test (y ∷ xs) zero x is passes =
    or_left (test y) (list_any test xs) (ap test (same_Some y x is) ∙ passes)
any_at test (y ∷ xs) (suc place) x is passes =
    or_right (test y) (list_any test xs) (any_at test xs place x is passes)

pub record Passing {A : Type 0} (test : A → Bool) (xs : List A) : Type 0 where
  pub place : ℕ
  pub thing : A
  pub is_thing : slice_get xs place ≡ Some thing
  pub passes : test thing ≡ true

pub passing : {A : Type 0} (test : A → Bool) (xs : List A) → list_any test xs ≡ true → Passing test xs
passing test [] is = absurd (false≢true is)
passing test (x ∷ xs) is = elim (or_cases (test x) (list_any test xs) is) [
  | inl here ↦ record { place = 0; thing = x; is_thing = refl; passes = here }
  | inr later ↦
      let p = passing test xs later in
      record { place = suc p.place; thing = p.thing; is_thing = p.is_thing; passes = p.passes }
]

-- what stands there, of two lists of which the one is made of the other
pub made_at : {A B : Type 0} (f : A → Option B) (xs : List A) (ys : List B) (place : ℕ) (x : A)
    → map (λ y. Some y) ys ≡ map f xs → slice_get xs place ≡ Some x
    → (y : B) × (slice_get ys place ≡ Some y) × (f x ≡ Some y)
made_at f xs [] place x are is = absurd (none_made f xs place x are is)
  where
    none_made : {A B : Type 0} (f : A → Option B) (xs : List A) (place : ℕ) (x : A) → [] ≡ map f xs
        → slice_get xs place ≡ Some x → ⊥
    none_made f [] place x are is = none-some x is
    none_made f (x' ∷ xs) place x are is = absurd cc
made_at f [] (y ∷ ys) place x are is = absurd (none-some x is)
made_at f (x' ∷ xs) (y ∷ ys) zero x are is =
    let first : Some y ≡ f x' = cc in
    let same : x' ≡ x = same_Some x' x is in
    (y, refl, ap f (sym same) ∙ sym first)
made_at f (x' ∷ xs) (y ∷ ys) (suc place) x are is =
    let rest : map (λ z. Some z) ys ≡ map f xs = cc in
    made_at f xs ys place x rest is

-- all nodes of tokens are there
pub at_below : (dir : Directory) (nodes : List Node) (ground : Ground) → IsGround dir nodes ground
    → AreBelow (length nodes) ground.at.items
at_below dir nodes ground is place x at =
    let less : place < length ground.at.items = slice_get_within ground.at.items place x at in
    let token = within ground.parties.tokens.all.items place (omega (arith, less, is.tokens.long)) in
    let own = is.tokens.sound token.0 x (record { place = place; is_token = token.1; is_at = at }) in
    slice_get_within nodes x own.0 own.1
