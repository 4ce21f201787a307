-- Where a binary search by number ends among objects whose numbers rise.
use Rattle.std.proofs.Common.{◌≡◌, ◌∙◌, inl, inr, ℕ, zero, suc, ◌<◌, ◌≤◌, List, [], ◌∷◌, length, get_or, Option, Some}
use Rattle.std.proofs.Common.{None, Result, Ok, Err, IfOk, refl, sym, ap, arith}
use Rattle.std.specs.Prelude.{slice_get, IsErr}
use Rattle.std.specs.List.Sorted.{IsSearchInRange, IsBinarySearchResult, IsNonDecreasingBy}
use Rattle.std.specs.Ordering.{nat_cmp, ordering_index}
use Rattle.std.proofs.lemmas.Cmp.{ranked}
use Rattle.std.proofs.lemmas.Bool.{cases_order}
use Rattle.std.proofs.lemmas.Bool.Decides.{nat_tests}
use Rattle.std.proofs.lemmas.List.{get_or_default}
use Rattle.std.proofs.lemmas.Option.{none-some, same_Some}
use Rattle.ad_dir_objects.specs.Seen.{object_seen, objects_of}
use Rattle.ad_dir_model.specs.Object.{Object}
use Rattle.ad_dir_model.specs.Objects.{object_of, Rise}
use Rattle.ad_dir_model.proofs.Finding.{of_number}
use Rattle.ad_rows_sound.proofs.Finds.{Entry, place_of}
use Rattle.ad_rows_sound.proofs.Leasts.{got, rise_places}

-- the entry at a place is seen as the object
record StandsAt (xs : List Entry) (i : ℕ) (o : Object) : Type 0 where
  entry : Entry
  within : i < length xs
  is : (d : Entry) → get_or xs i d ≡ entry
  seen : object_seen entry.0 entry.1 ≡ o

entry_at : (xs : List Entry) (i : ℕ) (o : Object) → slice_get (objects_of xs) i ≡ Some o → StandsAt xs i o
entry_at [] i o at = absurd (none-some o at)
entry_at (x ∷ xs) zero o at = record {
  entry = x;
  within = omega arith;
  is = λ d. refl;
  seen
      = same_Some (object_seen x.0 x.1) o at;
}
entry_at (x ∷ xs) (suc i) o at =
    let later = entry_at xs i o at in
    record { entry = later.entry; within = omega (arith, later.within); is = later.is; seen = later.seen }

number_at : (xs : List Entry) (i : ℕ) (o : Object) (at : StandsAt xs i o) → (get_or xs i at.entry).0.number ≡ o.number
number_at xs i o at = ap (λ (e : Entry). e.0.number) (at.is at.entry) ∙ ap (λ (seen : Object). seen.number) at.seen

higher : (a b n : ℕ) → a ≤ b → ordering_index (nat_cmp a n) ≤ ordering_index (nat_cmp b n)
higher a b n le = grind (arith, nat_tests)

-- the comparisons with a number rise along the objects
rising : (xs : List Entry) (n : ℕ) → Rise (objects_of xs)
    → IsNonDecreasingBy (λ (e : Entry). ordering_index (nat_cmp e.0.number n)) xs
rising xs n rise i j d le less =
    let a : Entry = get_or xs i d in
    let b : Entry = get_or xs j d in
    let at_i = got xs i a (omega (arith, le, less)) (get_or_default xs i d a (omega (arith, le, less))) in
    let at_j = got xs j b less (get_or_default xs j d b less) in
    let up : a.0.number ≤ b.0.number = elim (cases_order i j) [
      | inl same ↦ (let one = ap (λ (k : ℕ). (get_or xs k d).0.number) same in omega (arith, one))
      | inr apart ↦ elim apart [
        | inl before ↦ (let more = rise_places 0 (objects_of xs) rise i j (object_seen a.0 a.1) (object_seen b.0 b.1)
            before at_i at_j in omega (arith, more))
        | inr after ↦ absurd (omega (arith, le, after))
      ]
    ] in
    higher a.0.number b.0.number n up

pub record Searched (xs : List Entry) (n : ℕ) (r : Result ℕ ℕ) : Type 0 where
  pub within : IfOk r (λ at. at < length xs)
  pub found : IfOk r (λ at. (o : Object) → slice_get (objects_of xs) at ≡ Some o → o.number ≡ n)
  pub absent : IsErr r → object_of (objects_of xs) n ≡ None

pub searched : (xs : List Entry) (n : ℕ) → Rise (objects_of xs) → (r : Result ℕ ℕ) → IsSearchInRange r (length xs)
    → IsBinarySearchResult (λ (e : Entry). nat_cmp e.0.number n) xs r → Searched xs n r
searched xs n rise (Ok at) in_range equal = record {
  within = in_range;
  found = λ o place.
      let stands = entry_at xs at o place in
      let number : (get_or xs at stands.entry).0.number ≡ n = ranked _ n _ (sym (equal stands.entry)) in
      sym (number_at xs at o stands) ∙ number;
  absent = λ is. absurd cc;
}
searched xs n rise (Err at) in_range parted
    = record { within = tt; found = tt; absent = λ is. none (object_of (objects_of xs) n) refl }
  where
    none : (f : Option Object) → object_of (objects_of xs) n ≡ f → object_of (objects_of xs) n ≡ None
    none None is = is
    none (Some o) is =
        let place = place_of (objects_of xs) n o is in
        let stands = entry_at xs place.0 o place.1 in
        let number : (get_or xs place.0 stands.entry).0.number ≡ n = number_at xs place.0 o stands
        ∙ of_number (objects_of xs) n o is in
        let parts = parted (rising xs n rise) in
        elim (cases_order place.0 at) [
          | inl same ↦ (let greater : n < (get_or xs place.0 stands.entry).0.number
              = ranked _ n _ (sym (parts.1 place.0 stands.entry (omega (arith, same)) stands.within))
              in absurd (omega (arith, greater, number)))
          | inr apart ↦ elim apart [
            | inl before ↦ (let less : (get_or xs place.0 stands.entry).0.number < n
                = ranked _ n _ (sym (parts.0 place.0 stands.entry (omega arith) before))
                in absurd (omega (arith, less, number)))
            | inr after ↦ (let greater : n < (get_or xs place.0 stands.entry).0.number
                = ranked _ n _ (sym (parts.1 place.0 stands.entry (omega (arith, after)) stands.within))
                in absurd (omega (arith, greater, number)))
          ]
        ]
