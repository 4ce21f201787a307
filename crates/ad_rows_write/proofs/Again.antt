-- Objects by their numbers are the objects.
use Rattle.std.proofs.Common.{◌≡◌, ℕ, List, [], ◌∷◌, map, Some, refl, sym, subst}
use Rattle.std.specs.List.{AllByRecursion}
use Rattle.ad_dir_model.specs.Object.{Object}
use Rattle.ad_dir_model.specs.Objects.{numbers, object_at, object_of, Rise}
use Rattle.ad_dir_model.proofs.Finding.{at-of, of_number}
use Rattle.ad_rows_sound.proofs.Leasts.{all_found}
use Rattle.ad_rows_write.specs.Listing.{numbered, objects_at}

pairs_from : (whole os : List Object) → AllByRecursion (λ (o : Object). object_at whole o.number ≡ o) os
    → objects_at whole (numbers os) ≡ map numbered os
unfolding numbers
pairs_from whole [] all = refl
pairs_from whole (o ∷ os) all = let rest = pairs_from whole os all.1 in (λ i. (o.number, all.0 i) ∷ rest i)

-- each object stands at its number
pub pairs_are : (os : List Object) → Rise os → objects_at os (numbers os) ≡ map numbered os
pairs_are os rise =
    pairs_from os os (all_found (λ (o : Object). object_at os o.number ≡ o) 0 os rise
    (λ n o found. at-of os o.number o (subst (λ (m : ℕ). object_of os m ≡ Some o) (sym (of_number os n o found))
    found)))
