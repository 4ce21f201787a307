-- The objects of a directory, a list by rising number, and how they are found in it.
use Rattle.std.specs.Prelude.{ℕ, ◌<◌, nat_lt, Bool, not, ◌==◌, ◌&&◌, if◌then◌else◌, Option, is_some, unwrap_or, List}
use Rattle.std.specs.Prelude.{[], ◌∷◌, map, filter, find}
use Rattle.std.specs.Option.{option_map}
use Rattle.ad_sd.specs.declared.parts.Sd.{Sd}
use Rattle.ad_dir_model.specs.Object.{Object, no_object}

-- each number is above the one before it, and the first above this one
abbrev pub RiseAbove : ℕ → List Object → Type 0
RiseAbove number [] = Unit {0}
RiseAbove number (o ∷ others) = (number < o.number) × RiseAbove o.number others

-- numbers are from 1 on, and rise
abbrev pub Rise : List Object → Type 0
Rise objects = RiseAbove 0 objects

abbrev pub has_number : ℕ → Object → Bool
has_number number o = o.number == number

unfoldable pub numbers : List Object → List ℕ
numbers objects = map (λ o. o.number) objects

-- ---- finding

unfoldable pub object_of : List Object → ℕ → Option Object
object_of objects number = find (has_number number) objects

-- a live object is one that is in the list
abbrev pub is_live : List Object → ℕ → Bool
is_live objects number = is_some (object_of objects number)

-- the object of a number that is live
unfoldable pub object_at : List Object → ℕ → Object
object_at objects number = unwrap_or (object_of objects number) no_object

abbrev pub parent_at : List Object → ℕ → ℕ
parent_at objects number = (object_at objects number).parent

abbrev pub sd_at : List Object → ℕ → Sd
sd_at objects number = (object_at objects number).sd

-- ---- children

-- a child of the parent whose number is above this one
abbrev pub is_child : ℕ → ℕ → Object → Bool
is_child parent above o = (o.parent == parent) && nat_lt above o.number

abbrev pub children : List Object → ℕ → List ℕ
children objects parent = map (λ o. o.number) (filter (λ o. o.parent == parent) objects)

-- the least child of the parent above this number
unfoldable pub next_child : List Object → ℕ → ℕ → Option ℕ
next_child objects parent above = option_map (λ o. o.number) (find (is_child parent above) objects)

-- ---- changing

-- The object in the place of the one that has its number, or else where its number belongs.
unfoldable pub put : Object → List Object → List Object
put o [] = o ∷ []
put o (other ∷ others) =
    if other.number == o.number then o ∷ others
    else (if nat_lt o.number other.number then o ∷ other ∷ others
    else other ∷ put o others)

-- the list without the object of the number
unfoldable pub removed : ℕ → List Object → List Object
removed number objects = filter (λ o. not (has_number number o)) objects
