-- Sets that were put keep their places, and two sets that are equal stand once.
use Rattle.std.proofs.Common.{◌≡◌, ◌∙◌, ℕ, zero, suc, Bool, true, false, Option, Some, None, List, []}
use Rattle.std.proofs.Common.{◌∷◌, ◌++◌, map, refl, sym, ap}
use Rattle.std.specs.Prelude.{if◌then◌else◌, slice_get}
use Rattle.std.specs.Option.{option_map}
use Rattle.std.proofs.lemmas.Option.{none-some, slice_get-map}
use Rattle.ad_sets.specs.Told.{same_set}
use Rattle.ad_sets.specs.Sets.{Keeps}

-- ---- what was there stays

more_at : {X : Type 0} (xs ys : List X) (place : ℕ) (x : X) → slice_get xs place ≡ Some x
    → slice_get (xs ++ ys) place ≡ Some x
more_at [] ys place x there = absurd (none-some x there)
more_at (z ∷ xs) ys zero x there = there
more_at (z ∷ xs) ys (suc place) x there = more_at xs ys place x there

pub keeps_put : {X : Type 0} (f : X → List Bool) (b : Bool) (keys : List X) (key : X)
    → Keeps (map f keys) (map f (if b then keys else keys ++ key ∷ []))
keeps_put f true keys key place set there = there
keeps_put {X = X} f false keys key place set there =
    let here : option_map f (slice_get keys place) ≡ Some set = sym (slice_get-map f keys place) ∙ there in
    slice_get-map f (keys ++ key ∷ []) place ∙ more (slice_get keys place) refl here
  where
    more : (found : Option X) → slice_get keys place ≡ found → option_map f found ≡ Some set
        → option_map f (slice_get (keys ++ key ∷ []) place) ≡ Some set
    more None is some = absurd (none-some set some)
    more (Some x) is some = ap (option_map f) (more_at keys (key ∷ []) place x is) ∙ some

-- ---- equal sets

pub same_turned : (a b : List Bool) → same_set a b ≡ same_set b a
same_turned [] [] = refl
same_turned [] (y ∷ ys) = refl
same_turned (x ∷ xs) [] = refl
same_turned (true ∷ xs) (true ∷ ys) = same_turned xs ys
same_turned (true ∷ xs) (false ∷ ys) = refl
same_turned (false ∷ xs) (true ∷ ys) = refl
same_turned (false ∷ xs) (false ∷ ys) = same_turned xs ys

pub same_self : (a : List Bool) → same_set a a ≡ true
same_self [] = refl
same_self (true ∷ xs) = same_self xs
same_self (false ∷ xs) = same_self xs
