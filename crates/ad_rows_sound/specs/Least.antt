-- The least number of which something doesn't hold.
use Rattle.std.specs.Prelude.{◌≡◌, ℕ, ◌<◌, nat_lt, if◌then◌else◌, Option, Some, None, List}
use Rattle.ad_dir_model.specs.Object.{Object}
use Rattle.ad_dir_model.specs.Objects.{object_of}

-- It doesn't hold of this number, and holds of each that is smaller; where there is none, it holds of each number.
abbrev pub IsLeast : (ℕ → Type 0) → Option ℕ → Type 0
IsLeast Holds None = (n : ℕ) → Holds n
IsLeast Holds (Some least) = (Holds least → ⊥) × ((n : ℕ) → n < least → Holds n)

-- the lesser of two numbers, where there are any
abbrev pub lesser : Option ℕ → Option ℕ → Option ℕ
lesser (Some a) (Some b) = Some (if nat_lt a b then a else b)
lesser (Some a) None = Some a
lesser None b = b

-- it holds of the object of a number, where there is one
abbrev pub OfObject : List Object → (Object → Type 0) → ℕ → Type 0
OfObject objects Holds number = (o : Object) → object_of objects number ≡ Some o → Holds o

-- the least number of an object of which it doesn't hold, where there is one
abbrev pub IsLeastObject : (Object → Type 0) → List Object → Option ℕ → Type 0
IsLeastObject Holds objects least = IsLeast (OfObject objects Holds) least
