-- How many classes the chain of a class has, where it ends.
use Rattle.std.specs.Prelude.{◌≡◌, ℕ, ◌-◌, ◌<◌, ◌≤◌, true, false, List, length, Option}
use Rattle.std.specs.List.{slice_index_or}
use Rattle.ad_schema_classes.specs.Chains.{ends_within}

-- The chain of the class ends within so many classes, and not sooner.
pub record IsHeight (above : List (Option ℕ)) (class height : ℕ) : Type 0 where
  pub within : ends_within above height class ≡ true
  pub not_sooner : ends_within above (height - 1) class ≡ false

-- the height of a class, or 0 where it isn't known
unfoldable pub height_at : List ℕ → ℕ → ℕ
height_at heights class = slice_index_or heights class 0

-- those that are known are heights
pub record AreHeights (above : List (Option ℕ)) (heights : List ℕ) : Type 0 where
  pub known : (class : ℕ) → 0 < height_at heights class → IsHeight above class (height_at heights class)
  pub low : (class : ℕ) → height_at heights class ≤ length above
