-- Classes by their places: the chain of superclasses, and the least set of a class. above and next say of each
-- class, by its place, which is its superclass, and which classes stand next to it.
use Rattle.std.specs.Prelude.{◌≡◌, ℕ, zero, suc, ◌+◌, ◌<◌, Bool, true, false, ◌||◌, ◌&&◌, ◌==◌, List, [], ◌∷◌}
use Rattle.std.specs.Prelude.{length, Option, None, Some, unwrap_or, slice_get, if◌then◌else◌}
use Rattle.std.specs.List.{list_any}
use Rattle.std.specs.Option.{option_map, option_map_or, option_or}
use Rattle.ad_ids.specs.declared.guid.Guid.{Guid}
use Rattle.ad_ids.specs.Guid.{same_guid}

-- ---- the chain

-- what a list of options has at a place
unfoldable pub option_at : List (Option ℕ) → ℕ → Option ℕ
option_at options place = unwrap_or (slice_get options place) None

-- the class and those above it, n of them at most
unfoldable pub chain_within : List (Option ℕ) → ℕ → ℕ → List ℕ
chain_within above zero class = []
chain_within above (suc n) class = class ∷ option_map_or (chain_within above n) (option_at above class) []

-- Whether the chain ends within n classes. One that ends has no class twice.
unfoldable pub ends_within : List (Option ℕ) → ℕ → ℕ → Bool
ends_within above zero class = false
ends_within above (suc n) class = option_map_or (ends_within above n) (option_at above class) true

-- the whole chain
unfoldable pub chain : List (Option ℕ) → ℕ → List ℕ
chain above class = chain_within above (length above) class

-- the first that is there, of what the classes of a list have
unfoldable pub first_along : List (Option ℕ) → List ℕ → Option ℕ
first_along options [] = None
first_along options (class ∷ classes) = option_or (option_at options class) (first_along options classes)

-- the naming attribute of a class: its own, else that of the class above it, else cn
unfoldable pub naming_by : List (Option ℕ) → List (Option ℕ) → ℕ → ℕ → ℕ
naming_by above own cn class = unwrap_or (first_along own (chain above class)) cn

-- whether a class has the GUID
unfoldable pub has_guid : List Guid → Guid → ℕ → Bool
has_guid guids guid class = unwrap_or (option_map (λ own. same_guid own guid) (slice_get guids class)) false

-- the first class from place n on, of so many, whose chain never ends
unfoldable pub endless_from : List (Option ℕ) → ℕ → ℕ → Option ℕ
endless_from above n zero = None
endless_from above n (suc left) = if ends_within above (length above) n then endless_from above (n + 1) left else Some n

unfoldable pub first_endless : List (Option ℕ) → Option ℕ
first_endless above = endless_from above 0 (length above)

-- ---- sets

abbrev pub contains : List ℕ → ℕ → Bool
contains list k = list_any (λ x. x == k) list

-- the list of a class
unfoldable pub list_at : List (List ℕ) → ℕ → List ℕ
list_at lists class = unwrap_or (slice_get lists class) []

-- Whether a class of the set has k in its list. The lists are those of the classes from place n on.
unfoldable pub listed : (ℕ → Bool) → ℕ → List (List ℕ) → ℕ → Bool
listed set n [] k = false
listed set n (list ∷ lists) k = set n && contains list k || listed set (n + 1) lists k

-- a set with all classes that stand next to one of its classes
unfoldable pub grown : List (List ℕ) → (ℕ → Bool) → ℕ → Bool
grown next set k = set k || listed set 0 next k

-- the class alone, grown n times
unfoldable pub set_within : List (List ℕ) → ℕ → ℕ → ℕ → Bool
set_within next zero class k = class == k
set_within next (suc n) class k = grown next (set_within next n class) k

-- The least set of classes that has the class and, with each class, those next to it (IsLeastSet): each growth but
-- the last has a class more.
unfoldable pub set_of : List (List ℕ) → ℕ → ℕ → Bool
set_of next class k = set_within next (length next) class k

-- a set of classes, by place, that has the class and, with each class, those next to it
pub record IsClosedSet (next : List (List ℕ)) (class : ℕ) (set : ℕ → Bool) : Type 0 where
  pub has : set class ≡ true
  pub goes_on : (a b : ℕ) → a < length next → b < length next → set a ≡ true → contains (list_at next a) b ≡ true
      → set b ≡ true

-- the least of these sets
pub record IsLeastSet (next : List (List ℕ)) (class : ℕ) (set : ℕ → Bool) : Type 0 where
  pub closed : IsClosedSet next class set
  pub least : (other : ℕ → Bool) → IsClosedSet next class other → (k : ℕ) → k < length next → set k ≡ true → other k
      ≡ true
