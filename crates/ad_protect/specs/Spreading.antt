-- Whom protection spreads to, as it is found: a set to which objects are taken, and a table of primary groups.
use Rattle.std.specs.Prelude.{◌≡◌, ℕ, ◌<◌, Bool, true, false, ◌==◌, ◌&&◌, ◌||◌, nat_eq, Option, List, [], ◌++◌, get_or}
use Rattle.std.specs.Option.{option_map_or, option_and_then}
use Rattle.std.specs.Global.{Vec}
use Rattle.indexmap.specs.IndexMap.{IndexMap, get}
use Rattle.ad_ids.specs.SidValue.{SidValue, same_sid}
use Rattle.ad_ids.specs.SidChild.{child_of}
use Rattle.ad_dir_model.specs.Objects.{object_at, is_live}
use Rattle.ad_dir_model.specs.Attributes.{primary_group}
use Rattle.ad_dir_model.specs.Identity.{first_of_attr, self_sid}
use Rattle.ad_dir_model.specs.Directory.{Directory}
use Rattle.ad_dir_model.specs.Protection.{number_in, begins_protection, is_protected_alone, has_group, has}
use Rattle.ad_dir_model.specs.Protection.{IsClosed, IsReachedBySpread}

-- ---- who is in a group

-- the identifier is the other one with this number after it
abbrev pub is_below : SidValue → SidValue → ℕ → Bool
is_below above sid number = option_map_or (λ own. same_sid sid own) (child_of above number) false

-- the live object has the group
abbrev pub is_in_group : Directory → ℕ → ℕ → Bool
is_in_group dir group number =
    is_live dir.objects number && has_group dir (object_at dir.objects number) (object_at dir.objects group)

-- the primaryGroupID of an object, where it isn't negative
unfoldable pub primary_at : Directory → ℕ → Option ℕ
primary_at dir number =
    option_and_then (λ value. number_in value.key)
    (first_of_attr (primary_group dir.schema) (object_at dir.objects number))

-- an optional number is this one
abbrev pub is_number : Option ℕ → ℕ → Bool
is_number found number = option_map_or (λ own. own == number) found false

-- ---- the table of primary groups

-- the numbers that a table has at a primaryGroupID
abbrev pub listed : {S : Type 0} → IndexMap ℕ (Vec ℕ) S → ℕ → List ℕ
listed table rid = option_map_or (λ numbers. numbers.items) (get nat_eq table rid) []

-- of these objects each stands at its primaryGroupID, and nothing else stands there
pub record IsTableOf (dir : Directory) (numbers : List ℕ) (table : ℕ → List ℕ) : Type 0 where
  pub each : (rid number : ℕ) → has numbers number ≡ true → is_number (primary_at dir number) rid ≡ true
      → has (table rid) number ≡ true
  pub there : (rid number : ℕ) → has (table rid) number ≡ true → has numbers number ≡ true
  pub only : (rid number : ℕ) → has (table rid) number ≡ true → is_number (primary_at dir number) rid ≡ true

-- one more number, where there is a primaryGroupID for it
abbrev pub Notes : Option ℕ → ℕ → (ℕ → List ℕ) → (ℕ → List ℕ) → Type 0
Notes rid number old new =
    (other n : ℕ) → has (new other) n ≡ (has (old other) n || (is_number rid other && number == n))

-- ---- the set

-- More numbers were taken into a set: those from before stand first, each of the others passes the test, and each
-- that passes it is in the set.
pub record Takes (test : ℕ → Bool) (old new : List ℕ) : Type 0 where
  pub others : List ℕ
  pub is : new ≡ old ++ others
  pub each : (number : ℕ) → has others number ≡ true → test number ≡ true
  pub all : (number : ℕ) → test number ≡ true → has new number ≡ true

-- live objects to which protection spreads
pub record AreReached (dir : Directory) (set : List ℕ) : Type 0 where
  pub live : (number : ℕ) → has set number ≡ true → is_live dir.objects number ≡ true
  pub reached : (number : ℕ) → has set number ≡ true → IsReachedBySpread dir number

-- on the way: the set has where protection begins, and with each of its first so many objects those that have it as
-- group
pub record IsSpreading (dir : Directory) (done : ℕ) (set : List ℕ) : Type 0 where
  pub are : AreReached dir set
  pub begins : (number : ℕ) → is_live dir.objects number ≡ true → begins_protection dir (self_sid dir number) ≡ true
      → has set number ≡ true
  pub spreads : (place number : ℕ) → place < done → is_in_group dir (get_or set place 0) number ≡ true
      → has set number ≡ true

-- the least closed set
pub record IsLeast (dir : Directory) (set : List ℕ) : Type 0 where
  pub are : AreReached dir set
  pub closed : IsClosed dir set

-- an object is protected, where this is the least set
abbrev pub is_protected : Directory → List ℕ → ℕ → Bool
is_protected dir set number = has set number || is_protected_alone dir (self_sid dir number)
