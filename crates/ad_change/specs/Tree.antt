-- How deep objects stand, and what a change may weigh.
use Rattle.std.specs.Prelude.{ℕ, zero, suc, Bool, nat_le, ◌==◌, if◌then◌else◌}
use Rattle.std.specs.List.{list_all}
use Rattle.ad_dir_model.specs.Limits.{max_depth, max_weight}
use Rattle.ad_dir_model.specs.Object.{Object}
use Rattle.ad_dir_model.specs.Objects.{parent_at, put}
use Rattle.ad_dir_model.specs.Tree.{root}
use Rattle.ad_dir_model.specs.Directory.{Directory, with_objects}
use Rattle.ad_dir_model.specs.Weight.{weight}

-- the number of parents above an object, at most so many
unfoldable pub depth_within : (ℕ → ℕ) → ℕ → ℕ → ℕ
depth_within parent zero number = 0
depth_within parent (suc levels) number = if number == root then 0 else suc (depth_within parent levels (parent number))

-- more than the limit for one that is too deep
unfoldable pub depth_of : (ℕ → ℕ) → ℕ → ℕ
depth_of parent number = depth_within parent (suc max_depth) number

-- no object is too deep where this one is put
unfoldable pub is_shallow_with : Directory → Object → Bool
is_shallow_with dir o = list_all (λ (other : Object). nat_le (depth_of (parent_at (put o dir.objects)) other.number)
    max_depth) dir.objects

-- nor is the directory too heavy
unfoldable pub fits_weight_limit : Directory → Object → Bool
fits_weight_limit dir o = nat_le (weight (with_objects (put o dir.objects) dir)) max_weight
