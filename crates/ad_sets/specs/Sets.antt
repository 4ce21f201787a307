-- Sets that are kept, each different one once, under the place at which it was put.
use Rattle.std.specs.Prelude.{◌≡◌, ℕ, ◌<◌, Bool, true, false, ◌&&◌, ◌||◌, not, List, [], map, length, Some, slice_get}
use Rattle.std.specs.Prelude.{slice_index_or}
use Rattle.std.specs.List.{list_any}
use Rattle.ad_sets.specs.declared.sets.Sets.{Sets}
use Rattle.ad_sets.specs.Told.{stands_in}

-- ---- what is kept

abbrev pub sets_of : Sets → List (List Bool)
sets_of s = map (λ set. set.items) s.sets.keys

-- the set at a place; none stands beyond the last, which is the empty one
abbrev pub set_at : List (List Bool) → ℕ → List Bool
set_at sets place = slice_index_or sets place []

-- each set that there was has its place still
abbrev pub Keeps : List (List Bool) → List (List Bool) → Type 0
Keeps old new = (place : ℕ) (set : List Bool) → slice_get old place ≡ Some set → slice_get new place ≡ Some set

-- ---- who is in a set

-- it has nobody
abbrev pub is_nobody : List Bool → Bool
is_nobody set = not (list_any (λ (there : Bool). there) set)

-- of two truth values: both, or else one of both
abbrev pub joins : Bool → Bool → Bool → Bool
joins true a b = a && b
joins false a b = a || b

-- At each place of the first set stands whether it is in both sets, or else in one of both.
pub record IsJoined (both : Bool) (set others joined : List Bool) : Type 0 where
  pub size : length joined ≡ length set
  pub each : (place : ℕ) → place < length set
      → stands_in joined place ≡ joins both (stands_in set place) (stands_in others place)
