-- How many links lead from a holder to a target, as a map counts them, and how many values with a mark.
use Rattle.std.specs.Prelude.{◌≡◌, ℕ, ◌+◌, ◌*◌, ◌^◌, ◌-◌, ◌<◌, ◌≤◌, ◌==◌, Bool, if◌then◌else◌, unwrap_or, Some, List}
use Rattle.std.specs.Prelude.{[], ◌∷◌}
use Rattle.std.specs.Map.{lookup}
use Rattle.std.specs.BTreeMap.{is_at}
use Rattle.std.specs.Ordering.{nat_cmp}
use Rattle.ad_dir_model.specs.Object.{Object}
use Rattle.ad_dir_model.specs.Objects.{object_of}
use Rattle.ad_dir_links.specs.Marks.{all_ties}

-- how often the number stands in the list
unfoldable pub times : ℕ → List ℕ → ℕ
times number [] = 0
times number (n ∷ others) = (if n == number then 1 else 0) + times number others

-- the number of a target and a holder together
unfoldable pub pair_key : ℕ → ℕ → ℕ
pair_key target holder = target * 4294967296 + holder

-- the count at the number of a pair
abbrev pub count_in : List (ℕ × ℕ) → ℕ → ℕ
count_in entries key = unwrap_or (lookup (is_at (nat_cmp key)) entries) 0

abbrev pub counted : List (ℕ × ℕ) → ℕ → ℕ → ℕ
counted entries target holder = count_in entries (pair_key target holder)

-- So many links are counted at least. The greatest count stands for any number.
abbrev pub Covers : ℕ → ℕ → Type 0
Covers count n = count < 2 ^ 32 - 1 → n ≤ count

-- Each link of the object is counted, its naming value, and each value of an attribute that has its flag set.
abbrev pub IsCounted : List Bool → List (ℕ × ℕ) → Object → Type 0
IsCounted indexed entries o = o.number < 2 ^ 32 → (target : ℕ) → Covers (counted entries target o.number)
    (times target (all_ties indexed o.name o.values))

-- Those of each object are.
abbrev pub AreCounted : List Bool → List (ℕ × ℕ) → List Object → Type 0
AreCounted indexed entries objects = (number : ℕ) (o : Object) → object_of objects number ≡ Some o
    → IsCounted indexed entries o

-- ---- changes

-- how many links from the holder to the target are among those from one holder to these targets
abbrev pub gain : ℕ → List ℕ → ℕ → ℕ → ℕ
gain one targets target holder = if one == holder then times target targets else 0

-- what was counted still is
abbrev pub Keeps : List (ℕ × ℕ) → List (ℕ × ℕ) → Type 0
Keeps old new = (target holder n : ℕ) → holder < 2 ^ 32 → Covers (counted old target holder) n
    → Covers (counted new target holder) n

-- and links from one holder to these targets are counted besides, or no more
abbrev pub Adds : ℕ → List ℕ → List (ℕ × ℕ) → List (ℕ × ℕ) → Type 0
Adds one targets old new = (target holder n : ℕ) → holder < 2 ^ 32 → Covers (counted old target holder) n
    → Covers (counted new target holder) (n + gain one targets target holder)

abbrev pub Drops : ℕ → List ℕ → List (ℕ × ℕ) → List (ℕ × ℕ) → Type 0
Drops one targets old new = (target holder n : ℕ) → holder < 2 ^ 32 → Covers (counted old target holder)
    (n + gain one targets target holder) → Covers (counted new target holder) n

-- what was counted still is, but for one holder
abbrev pub Forgets : ℕ → List (ℕ × ℕ) → List (ℕ × ℕ) → Type 0
Forgets one old new = (target holder n : ℕ) → holder < 2 ^ 32 → (one ≡ holder → ⊥)
    → Covers (counted old target holder) n → Covers (counted new target holder) n
