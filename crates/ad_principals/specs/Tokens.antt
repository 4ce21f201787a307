-- The token that a directory gives a principal.
use Rattle.std.specs.Prelude.{◌≡◌, ℕ, ◌<◌, ◌≤◌, Bool, true, false, not, ◌&&◌, if◌then◌else◌}
use Rattle.std.specs.Prelude.{Option, Some, None, List, [], ◌∷◌, length}
use Rattle.std.specs.List.{AllByRecursion}
use Rattle.std.specs.Ordering.{nat_cmp, is_lt}
use Rattle.std.specs.Cmp.Lexicographic.{slice_cmp}
use Rattle.ad_ids.specs.declared.token.Token.{Token}
use Rattle.ad_ids.specs.SidValue.{SidValue, same_sid, contains_sid}
use Rattle.ad_ids.specs.Sid.{sid_bytes}
use Rattle.ad_dir_model.specs.Identity.{self_sid}
use Rattle.ad_dir_model.specs.Directory.{Directory}
use Rattle.ad_principals.specs.declared.fault.TokenFault.{TokenFault}
use Rattle.ad_principals.specs.declared.fault.TokenFault.TheVariants as fault
use Rattle.ad_principals.specs.Groups.{primary_of, first_groups, IsReached, IsLeast}
use Rattle.ad_ids.specs.WellKnown.{administrators}

-- ---- a list in rising order

-- the bytes of the first come before those of the second
abbrev pub is_before : SidValue → SidValue → Bool
is_before a b = is_lt (slice_cmp nat_cmp (sid_bytes a) (sid_bytes b))

-- each before all that follow it
abbrev pub SidsRise : List SidValue → Type 0
SidsRise [] = Unit {0}
SidsRise (sid ∷ sids) = AllByRecursion (λ other. is_before sid other ≡ true) sids × SidsRise sids

-- ---- the token

-- the version of a token that may have marks and restricting identifiers
abbrev pub token_version : ℕ
token_version = 2

abbrev pub max_groups : ℕ
max_groups = 1024

-- the privileges to read and write the SACL (bit 0) and to take ownership (bit 1)
abbrev pub privileges_of_administrators : ℕ
privileges_of_administrators = 3

-- Of a user with this identifier, this primary group and these first groups. Version 2; the user owns what it makes.
-- The groups are those of the least set but for the user's own identifier, in rising order of their bytes. Who is in
-- Administrators has the privileges to read and write the SACL and to take ownership, and no one else has any. No
-- group only denies, and nothing is restricted.
pub record IsTokenFrom (dir : Directory) (self : Option SidValue) (group : SidValue) (first : List SidValue)
    (token : Token) : Type 0 where
  pub set : List SidValue
  pub user : self ≡ Some token.user
  pub least : IsLeast dir token.user first set
  pub groups : (sid : SidValue)
      → contains_sid token.groups sid ≡ (contains_sid set sid && not (same_sid sid token.user))
  pub rise : SidsRise token.groups
  pub few : length token.groups ≤ max_groups
  pub version : token.version ≡ token_version
  pub owner : token.owner ≡ token.user
  pub primary : token.primary ≡ group
  pub privileges : token.privileges ≡ (if contains_sid set administrators then privileges_of_administrators else 0)
  pub deny_only : token.deny_only ≡ []
  pub restricting : token.restricting ≡ []

-- that of an object
abbrev pub IsTokenOf : Directory → ℕ → List SidValue → Token → Type 0
IsTokenOf dir number extra token =
    IsTokenFrom dir (self_sid dir number) (primary_of dir number) (first_groups dir number extra) token

-- ---- where there is none

-- More than 1,024 identifiers, each another one, are in the least set besides the user's own.
pub record HasTooManyFrom (dir : Directory) (self : Option SidValue) (first : List SidValue) : Type 0 where
  pub user : SidValue
  pub is_user : self ≡ Some user
  pub groups : List SidValue
  pub rise : SidsRise groups
  pub reached : (sid : SidValue) → contains_sid groups sid ≡ true → IsReached dir user first sid
  pub others : (sid : SidValue) → contains_sid groups sid ≡ true → same_sid sid user ≡ false
  pub many : max_groups < length groups

-- that of an object
abbrev pub HasTooManyGroups : Directory → ℕ → List SidValue → Type 0
HasTooManyGroups dir number extra = HasTooManyFrom dir (self_sid dir number) (first_groups dir number extra)

-- the fault of a user with this identifier is this one's
abbrev pub IsFaultFrom : Directory → Option SidValue → List SidValue → TokenFault → Type 0
IsFaultFrom dir self first fault.NoSid = self ≡ None
IsFaultFrom dir self first fault.TooMany = HasTooManyFrom dir self first
IsFaultFrom dir self first fault.Memory = Unit {0}

-- that of an object
abbrev pub IsTokenFault : Directory → ℕ → List SidValue → TokenFault → Type 0
IsTokenFault dir number extra fault = IsFaultFrom dir (self_sid dir number) (first_groups dir number extra) fault
