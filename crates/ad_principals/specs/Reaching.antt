-- How the least set of groups is found: identifiers are taken to a set, each once, in the order in which they come.
use Rattle.std.specs.Prelude.{◌≡◌, ◌⊎◌, ℕ, ◌<◌, true, Some, List, ◌++◌, get_or}
use Rattle.ad_ids.specs.SidValue.{SidValue, contains_sid}
use Rattle.ad_dir_model.specs.Object.{no_sid}
use Rattle.ad_dir_model.specs.Identity.{self_sid}
use Rattle.ad_dir_model.specs.Protection.{has}
use Rattle.ad_dir_model.specs.Directory.{Directory}
use Rattle.ad_principals.specs.declared.members.Members.{Members}
use Rattle.ad_principals.specs.Groups.{history_of, Brings, IsReached}
use Rattle.ad_principals.specs.Membership.{listed}

-- More identifiers were taken into a set: those from before stand first, each of the others is one that was asked
-- for, and each that was asked for is in the set.
pub record Takes (Asked : SidValue → Type 0) (old new : List SidValue) : Type 0 where
  pub others : List SidValue
  pub is : new ≡ old ++ others
  pub each : (sid : SidValue) → contains_sid others sid ≡ true → Asked sid
  pub all : (sid : SidValue) → Asked sid → contains_sid new sid ≡ true

-- the identifier of one of these objects
pub record IsOfOne (dir : Directory) (numbers : List ℕ) (sid : SidValue) : Type 0 where
  pub number : ℕ
  pub there : has numbers number ≡ true
  pub own : self_sid dir number ≡ Some sid

-- the identifier of one of the groups that a table has at an object, or one that the object had before
abbrev pub IsOfObject : Directory → Members → ℕ → SidValue → Type 0
IsOfObject dir members number sid =
    IsOfOne dir (listed members.groups number) sid ⊎ (contains_sid (history_of dir number) sid ≡ true)

-- On the way: the set has the first groups and what the user's identifier brings, and what each of its first so many
-- identifiers brings.
pub record IsReaching (dir : Directory) (user : SidValue) (first : List SidValue) (done : ℕ) (set : List SidValue)
    : Type 0 where
  pub begins : (sid : SidValue) → contains_sid first sid ≡ true → contains_sid set sid ≡ true
  pub of_user : (other : SidValue) → Brings dir user other → contains_sid set other ≡ true
  pub of_groups : (place : ℕ) (other : SidValue) → place < done → Brings dir (get_or set place no_sid) other
      → contains_sid set other ≡ true
  pub reached : (sid : SidValue) → contains_sid set sid ≡ true → IsReached dir user first sid
