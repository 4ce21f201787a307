-- Who is a principal, and the groups that a directory gives one.
use Rattle.std.specs.Prelude.{◌≡◌, ◌⊎◌, ℕ, pos, negsuc, nat_lt, ◌^◌, Bool, true, false, not, ◌==◌, ◌&&◌, ◌||◌}
use Rattle.std.specs.Prelude.{if◌then◌else◌, filter, is_some, unwrap_or, codes, Option, Some, None, List, [], ◌∷◌}
use Rattle.std.specs.Prelude.{filter_map}
use Rattle.std.specs.Int.{bit_at}
use Rattle.std.specs.Option.{option_map_or, option_and_then}
use Rattle.std.specs.Str.{bytes_eq}
use Rattle.ad_ids.specs.SidValue.{SidValue, contains_sid}
use Rattle.ad_ids.specs.WellKnown.{everyone, authenticated_users, users}
use Rattle.ad_value.specs.ValueOf.{sid_of}
use Rattle.ad_value.specs.declared.value.Key.{Key}
use Rattle.ad_value.specs.declared.value.Key.TheVariants as key
use Rattle.ad_dir_model.specs.Object.{Stored, plain_value, stored_in}
use Rattle.ad_dir_model.specs.Objects.{object_at, numbers}
use Rattle.ad_dir_model.specs.Tree.{root}
use Rattle.ad_dir_model.specs.Attributes.{attr_place, primary_group}
use Rattle.ad_dir_model.specs.Identity.{first_of_attr, is_sid, self_sid, domain_child}
use Rattle.ad_dir_model.specs.Protection.{number_in, has_as_member, is_of_domain}
use Rattle.ad_dir_model.specs.Directory.{Directory}

-- ---- principals

-- S-1-5-32, which is the container's of the groups that every domain has
abbrev pub builtin_domain : SidValue
builtin_domain = record { authority = 5; sub_authorities = 32 ∷ [] }

-- the first value of isDeleted is TRUE
unfoldable pub is_deleted : Directory → ℕ → Bool
is_deleted dir number =
    option_map_or (λ value. bytes_eq value.shown (codes "TRUE"))
    (first_of_attr (attr_place dir.schema (codes "isDeleted")) (object_at dir.objects number)) false

-- A live object with an identifier, but for the root, the object of S-1-5-32, and deleted ones. An object that isn't
-- live has no identifier.
abbrev pub is_principal : Directory → ℕ → Bool
is_principal dir number =
    is_some (self_sid dir number)
    && (not (number == root)
    && (not (is_sid builtin_domain (self_sid dir number)) && not (is_deleted dir number)))

-- all of them, by rising number
abbrev pub principals : Directory → List ℕ
principals dir = filter (is_principal dir) (numbers dir.objects)

-- ---- the primary group

-- the number of 32 bits that a value is
abbrev pub rid_if : ℕ → Option ℕ
rid_if n = if nat_lt n (2 ^ 32) then Some n else None

abbrev pub rid_in : Key → Option ℕ
rid_in key = option_and_then rid_if (number_in key)

-- the last number of the primary group's identifier: the first primaryGroupID, where it is a number of 32 bits
unfoldable pub primary_rid : Directory → ℕ → Option ℕ
primary_rid dir number =
    option_and_then (λ value. rid_in value.key)
    (first_of_attr (primary_group dir.schema) (object_at dir.objects number))

-- the primary group: the domain's identifier with that number, and Users where there is none
unfoldable pub primary_of : Directory → ℕ → SidValue
primary_of dir number = unwrap_or (option_and_then (domain_child dir) (primary_rid dir number)) users

-- ---- groups

-- the place of the bit of groupType of groups that count for access
abbrev pub security_enabled : ℕ
security_enabled = 31

-- that bit, of a number in two's complement
abbrev pub has_security_bit : Key → Bool
has_security_bit (key.Number (pos n)) = bit_at n security_enabled == 1
has_security_bit (key.Number (negsuc n)) = bit_at n security_enabled == 0
has_security_bit (key.Bytes bytes) = false

-- a group counts for access where it has no groupType, or one with that bit
unfoldable pub is_security_enabled : Directory → ℕ → Bool
is_security_enabled dir group =
    option_map_or (λ value. has_security_bit value.key)
    (first_of_attr (attr_place dir.schema (codes "groupType")) (object_at dir.objects group)) true

-- the group's member names the object
abbrev pub has_member : Directory → ℕ → ℕ → Bool
has_member dir group member = has_as_member dir (object_at dir.objects group) member

-- An identifier is in a group's: it is that of an object that the group's member names, and the group counts for
-- access.
pub record IsIn (dir : Directory) (sid group_sid : SidValue) : Type 0 where
  pub group : ℕ
  pub member : ℕ
  pub is_group : self_sid dir group ≡ Some group_sid
  pub is_member : self_sid dir member ≡ Some sid
  pub enabled : is_security_enabled dir group ≡ true
  pub names : has_member dir group member ≡ true

-- ---- identifiers of before

-- the identifier that a value is
abbrev pub sid_stored : Stored → Option SidValue
sid_stored stored = option_and_then (λ value. sid_of value.shown) (plain_value stored)

-- the identifiers that an object had before: the values of its sIDHistory that are some
unfoldable pub history_of : Directory → ℕ → List SidValue
history_of dir number =
    option_map_or (λ attr. filter_map sid_stored (stored_in (object_at dir.objects number).values attr))
    (attr_place dir.schema (codes "sIDHistory")) []

-- The object of an identifier had another one before.
pub record HadBefore (dir : Directory) (sid old : SidValue) : Type 0 where
  pub number : ℕ
  pub own : self_sid dir number ≡ Some sid
  pub had : contains_sid (history_of dir number) old ≡ true

-- Who has the first identifier has the second one too: a group's that it is in, or one that its object had before.
abbrev pub Brings : Directory → SidValue → SidValue → Type 0
Brings dir sid other = IsIn dir sid other ⊎ HadBefore dir sid other

-- ---- the least set

-- S-1-5-7
abbrev pub anonymous : SidValue
anonymous = record { authority = 5; sub_authorities = 7 ∷ [] }

-- who isn't in Authenticated Users: the domain's Guest, and the objects of S-1-5-7 and S-1-1-0
unfoldable pub is_unauthenticated : Directory → Option SidValue → Bool
is_unauthenticated dir sid = is_of_domain dir sid 501 || (is_sid anonymous sid || is_sid everyone sid)

-- Everyone, Authenticated Users but for those, and further identifiers
abbrev pub first_with : Bool → List SidValue → List SidValue
first_with true further = everyone ∷ further
first_with false further = everyone ∷ authenticated_users ∷ further

-- those, the primary group, and the identifiers that were given
abbrev pub first_groups : Directory → ℕ → List SidValue → List SidValue
first_groups dir number extra =
    first_with (is_unauthenticated dir (self_sid dir number)) (primary_of dir number ∷ extra)

-- The set has the first groups, and what the user's identifier and each of the set bring.
pub record IsClosed (dir : Directory) (user : SidValue) (first set : List SidValue) : Type 0 where
  pub begins : (sid : SidValue) → contains_sid first sid ≡ true → contains_sid set sid ≡ true
  pub of_user : (other : SidValue) → Brings dir user other → contains_sid set other ≡ true
  pub of_groups : (sid other : SidValue) → contains_sid set sid ≡ true → Brings dir sid other
      → contains_sid set other ≡ true

-- the identifier is in every such set
abbrev pub IsReached : Directory → SidValue → List SidValue → SidValue → Type 0
IsReached dir user first sid = (set : List SidValue) → IsClosed dir user first set → contains_sid set sid ≡ true

-- The least such set: it is one, and what it has is in each.
pub record IsLeast (dir : Directory) (user : SidValue) (first set : List SidValue) : Type 0 where
  pub closed : IsClosed dir user first set
  pub reached : (sid : SidValue) → contains_sid set sid ≡ true → IsReached dir user first sid
