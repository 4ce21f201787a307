-- What an edit of an object changes of what is counted of it.
use Rattle.std.specs.Prelude.{◌≡◌, ℕ, ◌+◌, ◌==◌, Bool, false, Option, List, [], map, slice_get}
use Rattle.std.specs.Option.{option_map_or}
use Rattle.ad_dir_objects.specs.declared.object.Object.{Object as ObjectIn}
use Rattle.ad_dir_objects.specs.Seen.{held_seen}
use Rattle.ad_dir_model.specs.Object.{Object}
use Rattle.ad_dir_links.specs.Counted.{times}
use Rattle.ad_dir_links.specs.Marks.{all_ties}

-- The numbers of the one list are those of the other with some more and some less.
abbrev pub IsBalanced : List ℕ → List ℕ → List ℕ → List ℕ → Type 0
IsBalanced old new more less = (target : ℕ) → times target new + times target less ≡ times target old
    + times target more

-- the number stands at the place
abbrev pub is_next : List ℕ → ℕ → ℕ → Bool
is_next numbers place number = option_map_or (λ other. other == number) (slice_get numbers place) false

-- what is counted of an object
abbrev pub object_ties : List Bool → ObjectIn → List ℕ
object_ties indexed o = all_ties indexed o.name (map held_seen o.values)

-- that of one that is there, or nothing
abbrev pub ties_found : List Bool → Option Object → List ℕ
ties_found indexed found = option_map_or (λ (o : Object). all_ties indexed o.name o.values) found []
