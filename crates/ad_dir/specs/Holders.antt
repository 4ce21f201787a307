-- Who holds links to an object.
use Rattle.std.specs.Prelude.{◌≡◌, ℕ, ◌<◌, ◌≤◌, Bool, true, false, Option, Some, List, IfSome, IsSomeAnd}
use Rattle.std.specs.Option.{option_map_or}
use Rattle.std.specs.List.{list_any}
use Rattle.ad_dir_model.specs.Object.{Held, Object, names}
use Rattle.ad_dir_model.specs.Objects.{object_of}
use Rattle.ad_dir_model.specs.Protection.{numbers_where}

-- one of its values is a link to the target
abbrev pub links_to : ℕ → Object → Bool
links_to target o = list_any (λ (held : Held). names target held.values) o.values

-- the live objects that hold a link to the target, by rising number
abbrev pub holders : List Object → ℕ → List ℕ
holders objects target = numbers_where (links_to target) objects

-- the object of the number is one of them
abbrev pub is_holder : List Object → ℕ → ℕ → Bool
is_holder objects target number = option_map_or (links_to target) (object_of objects number) false

-- A number above this one, such that no live object between them holds a link to the target, and none at all above
-- this one where there is no such number. It may be that of an object that holds none.
pub record IsNextHolder (objects : List Object) (target above : ℕ) (result : Option ℕ) : Type 0 where
  pub is_above : IfSome result (λ next. above < next)
  pub each : (number : ℕ) (o : Object) → object_of objects number ≡ Some o → links_to target o ≡ true → above < number
      → IsSomeAnd result (λ next. next ≤ number)
