-- The numbers of children by their parents, in rising lists.
use Rattle.std.specs.Prelude.{◌≡◌, ℕ, ◌<◌, ◌==◌, nat_eq, nat_lt, not, if◌then◌else◌, Option, Some, List, [], ◌∷◌}
use Rattle.std.specs.Prelude.{filter, vec_len, IsSomeAnd}
use Rattle.std.specs.Option.{option_map_or}
use Rattle.std.specs.Map.{lookup}
use Rattle.std.specs.Global.{Vec}
use Rattle.std.specs.Vec.{vec_capacity}

-- each number is above the one before it, and the first above this one
abbrev pub RiseFrom : ℕ → List ℕ → Type 0
RiseFrom number [] = Unit {0}
RiseFrom number (n ∷ others) = (number < n) × RiseFrom n others

-- the number before the first that is above it
unfoldable pub put_number : ℕ → List ℕ → List ℕ
put_number number [] = number ∷ []
put_number number (n ∷ others) = if nat_lt number n then number ∷ n ∷ others else n ∷ put_number number others

unfoldable pub without_number : ℕ → List ℕ → List ℕ
without_number number ns = filter (λ n. not (n == number)) ns

-- the number isn't among them
abbrev pub Lacks : ℕ → List ℕ → Type 0
Lacks number [] = Unit {0}
Lacks number (n ∷ others) = (n ≡ number → ⊥) × Lacks number others

-- ---- all of them

-- the numbers that stand under a parent
abbrev pub listed : List (ℕ × Vec ℕ) → ℕ → List ℕ
listed entries parent = option_map_or (λ (v : Vec ℕ). v.items) (lookup (nat_eq parent) entries) []

abbrev pub ListsRise : List (ℕ × Vec ℕ) → Type 0
ListsRise entries = (parent : ℕ) → RiseFrom 0 (listed entries parent)

-- a number more may stand under the parent, if there is one, without more memory
abbrev pub HasPlace : Option ℕ → List (ℕ × Vec ℕ) → Type 0
HasPlace to entries = (parent : ℕ) → to ≡ Some parent → IsSomeAnd (lookup (nat_eq parent) entries)
    (λ (v : Vec ℕ). vec_len v < vec_capacity v)

-- the number doesn't stand under the parent, if there is one
abbrev pub IsNew : Option ℕ → ℕ → List (ℕ × Vec ℕ) → Type 0
IsNew to number entries = (parent : ℕ) → to ≡ Some parent → Lacks number (listed entries parent)

-- the same numbers stand under each parent
abbrev pub ListSame : (ℕ → List ℕ) → (ℕ → List ℕ) → Type 0
ListSame old new = (parent : ℕ) → new parent ≡ old parent

-- the number stands under the parent, if there is one, or doesn't any more
abbrev pub Adds : Option ℕ → ℕ → (ℕ → List ℕ) → (ℕ → List ℕ) → Type 0
Adds to number old new = (p : ℕ) → new p ≡ option_map_or (λ parent. if parent == p then put_number number (old p)
    else old p) to (old p)

abbrev pub Drops : Option ℕ → ℕ → (ℕ → List ℕ) → (ℕ → List ℕ) → Type 0
Drops from number old new = (p : ℕ) → new p
    ≡ option_map_or (λ parent. if parent == p then without_number number (old p) else old p) from (old p)

pub record Moves (to from : Option ℕ) (number : ℕ) (old new : ℕ → List ℕ) : Type 0 where
  pub mid : ℕ → List ℕ
  pub adds : Adds to number old mid
  pub drops : Drops from number mid new
