-- The classes of a set, as they are found.
use Rattle.std.specs.Prelude.{◌≡◌, ℕ, ◌+◌, ◌<◌, Bool, true, false, not, ◌||◌, List, [], ◌∷◌, ◌++◌, length, take}
use Rattle.std.specs.Prelude.{slice_get, if◌then◌else◌}
use Rattle.std.specs.Prelude.{◌⊎◌}
use Rattle.std.specs.Option.{option_map_or}
use Rattle.ad_schema_classes.specs.Chains.{contains, list_at, set_of}
use Rattle.ad_schema_classes.specs.Flags.{flag_at}

-- the place is within the row, and its flag isn't set
unfoldable pub is_free : List Bool → ℕ → Bool
is_free row k = option_map_or not (slice_get row k) false

-- the number of flags that aren't set
unfoldable pub free_count : List Bool → ℕ
free_count [] = 0
free_count (flag ∷ row) = (if flag then 0 else 1) + free_count row

-- The places of a list are flagged, and those whose flags weren't set before stand after the order.
pub record Noted (row : List Bool) (order list : List ℕ) (new : List Bool) (longer : List ℕ) : Type 0 where
  pub long : length new ≡ length row
  pub flags : (j : ℕ) → j < length row → flag_at new j ≡ (flag_at row j || contains list j)
  pub more : List ℕ
  pub behind : longer ≡ order ++ more
  pub within : (x : ℕ) → contains more x ≡ true → (x < length row) × (contains list x ≡ true)
  pub listed : (j : ℕ) → j < length row → flag_at new j ≡ true → (flag_at row j ≡ true) ⊎ (contains more j ≡ true)
  pub fewer : free_count new + length more ≡ free_count row

-- The flagged classes are those of the order; all of them are of the set of the class, and those next to the first
-- n of them are flagged.
pub record IsSetSoFar (next : List (List ℕ)) (class : ℕ) (row : List Bool) (order : List ℕ) (n : ℕ) : Type 0 where
  pub long : length row ≡ length next
  pub has : flag_at row class ≡ true
  pub reached : (x : ℕ) → contains order x ≡ true → (x < length next) × (set_of next class x ≡ true)
  pub listed : (x : ℕ) → x < length next → flag_at row x ≡ true → contains order x ≡ true
  pub done : (x b : ℕ) → contains (take n order) x ≡ true → b < length next → contains (list_at next x) b ≡ true
      → flag_at row b ≡ true
