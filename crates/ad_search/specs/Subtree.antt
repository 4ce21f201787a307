-- The objects of a subtree, as code gathers them: level by level from the base down.
use Rattle.std.specs.Prelude.{ℕ, zero, suc, Bool, not, ◌==◌, List, [], ◌∷◌, ◌++◌, filter}
use Rattle.ad_dir_model.specs.Object.{Object}
use Rattle.ad_dir_model.specs.Objects.{numbers, children}
use Rattle.ad_dir_model.specs.Tree.{root}
use Rattle.ad_dir_model.specs.Directory.{Directory}
use Rattle.ad_dir_model.specs.Changes.{goes_with}

-- a number that isn't the root's, which stands below none
abbrev pub is_other : ℕ → Bool
is_other number = not (number == root)

-- the objects right below each of these
unfoldable pub below_each : List Object → List ℕ → List ℕ
below_each objects [] = []
below_each objects (number ∷ level) = filter is_other (children objects number) ++ below_each objects level

-- these, and so many levels with them
unfoldable pub levels_from : List Object → ℕ → List ℕ → List ℕ
levels_from objects zero level = []
levels_from objects (suc levels) level = level ++ levels_from objects levels (below_each objects level)

-- the live objects that are the base or stand below it, by rising number
unfoldable pub subtree : Directory → ℕ → List ℕ
subtree dir base = filter (goes_with dir base) (numbers dir.objects)
