-- The tree of objects, by a function that says each object's parent. Object 1 is the root.
use Rattle.std.specs.Prelude.{◌≡◌, ◌≢◌, ℕ, zero, suc, ◌≤◌, nat_lt, Bool, false, ◌==◌, ◌&&◌, ◌||◌, if◌then◌else◌}
use Rattle.ad_dir_model.specs.Limits.{max_depth}

abbrev pub root : ℕ
root = 1

-- So many parents stand above the object: the last of them is the root.
abbrev pub IsAtDepth : (ℕ → ℕ) → ℕ → ℕ → Type 0
IsAtDepth parent zero number = number ≡ root
IsAtDepth parent (suc depth) number = (number ≢ root) × IsAtDepth parent depth (parent number)

-- the object stands in the tree, at most 64 parents deep
pub record IsPlaced (parent : ℕ → ℕ) (number : ℕ) : Type 0 where
  pub depth : ℕ
  pub within : depth ≤ max_depth
  pub chain : IsAtDepth parent depth number

-- Whether the other stands above the object, at most so many parents up.
unfoldable pub is_below_within : (ℕ → ℕ) → ℕ → ℕ → ℕ → Bool
is_below_within parent zero other number = false
is_below_within parent (suc levels) other number =
    if number == root then false
    else (parent number == other || is_below_within parent levels other (parent number))

unfoldable pub is_below : (ℕ → ℕ) → ℕ → ℕ → Bool
is_below parent other number = is_below_within parent max_depth other number

-- Whether a pending parent at this cursor still reaches the object, at most so many parents up: it is a child of the
-- parent above the cursor, or stands below one.
unfoldable pub is_reached_within : (ℕ → ℕ) → ℕ → ℕ → ℕ → ℕ → Bool
is_reached_within parent zero pending cursor number = false
is_reached_within parent (suc levels) pending cursor number =
    if number == root then false
    else ((parent number == pending && nat_lt cursor number) || is_reached_within parent levels pending cursor
    (parent number))

unfoldable pub is_reached : (ℕ → ℕ) → ℕ → ℕ → ℕ → Bool
is_reached parent pending cursor number = is_reached_within parent max_depth pending cursor number
