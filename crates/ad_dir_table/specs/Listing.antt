-- The objects of a directory in the order of their numbers, and how many descriptors they have.
use Rattle.std.specs.Prelude.{ℕ, ◌+◌, nat_lt, if◌then◌else◌, Option, option_map, List, [], ◌∷◌, find}
use Rattle.std.specs.List.{list_any}
use Rattle.ad_sd.specs.declared.parts.Sd.{Sd}
use Rattle.ad_dir_model.specs.Object.{Object}
use Rattle.ad_dir_model.specs.SameSd.{same_sd}

-- the least number above this one
unfoldable pub next_number : List Object → ℕ → Option ℕ
next_number objects above = option_map (λ o. o.number) (find (λ o. nat_lt above o.number) objects)

-- how many different descriptors there are: each counts at the last object that has it
unfoldable pub descriptor_count : List Object → ℕ
descriptor_count [] = 0
descriptor_count (o ∷ others) = (if list_any (λ other. same_sd o.sd other.sd) others then 0 else 1)
    + descriptor_count others

-- how many objects have the descriptor
unfoldable pub holders : Sd → List Object → ℕ
holders sd [] = 0
holders sd (o ∷ others) = (if same_sd sd o.sd then 1 else 0) + holders sd others
