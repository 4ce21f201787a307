-- Only for private contracts, invariants and proofs: which sets were told so far, and by which number.
use Rattle.std.specs.Prelude.{◌≡◌, ℕ, suc, ◌+◌, Bool, true, false, Some, None, List, [], ◌∷◌, ◌++◌, map, length}
use Rattle.std.specs.Prelude.{slice_index_or}
use Rattle.std.specs.Borrow.{Bor}
use Rattle.indexmap.specs.IndexSet.{IndexSet}
use Rattle.ad_sets.specs.declared.told.Fact.{Fact}
use Rattle.ad_sets.specs.Told.{RowValue, place_in, facts_from}
use Rattle.ad_sets.specs.Sets.{set_at}

-- a number that is known of a place is that of its set; 0 where none is known
abbrev pub AreHints : List (List Bool) → List (List Bool) → List ℕ → Type 0
AreHints sets told numbers = (place number : ℕ) → slice_index_or numbers place 0 ≡ suc number
    → place_in told (set_at sets place) ≡ Some number

-- the facts after these are those of one row more, whatever follows
abbrev pub Tells : List (List Bool) → List (List Bool) → RowValue → List Fact → List Fact → Type 0
Tells told more row facts new = (rows : List RowValue) → new ++ facts_from more rows ≡ facts ++ facts_from told (row ∷ rows)

-- the sets of a table of sets
abbrev pub told_of : {S : Type 0} → IndexSet (Bor (List Bool)) S → List (List Bool)
told_of table = map (λ set. set.now) table.keys

-- A set is among those that were told, by this number, or is told now.
pub record IsEntered (told more : List (List Bool)) (set : List Bool) (number : ℕ) (is_new : Bool) : Type 0 where
  pub place : ℕ
  pub on : number ≡ place + 1
  pub was : is_new ≡ false → (place_in told set ≡ Some place) × (more ≡ told)
  pub comes : is_new ≡ true → (place_in told set ≡ None) × ((place ≡ length told) × (more ≡ told ++ set ∷ []))
