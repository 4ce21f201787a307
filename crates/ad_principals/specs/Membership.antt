-- The groups of each object, as they are kept in a table.
use Rattle.std.specs.Prelude.{◌≡◌, ℕ, Bool, ◌&&◌, ◌||◌, is_some, nat_eq, List, []}
use Rattle.std.specs.Option.{option_map_or}
use Rattle.std.specs.Global.{Vec}
use Rattle.indexmap.specs.IndexMap.{IndexMap, get}
use Rattle.ad_dir_model.specs.Identity.{self_sid}
use Rattle.ad_dir_model.specs.Protection.{has}
use Rattle.ad_dir_model.specs.Directory.{Directory}
use Rattle.ad_principals.specs.declared.members.Members.{Members}
use Rattle.ad_principals.specs.Groups.{is_security_enabled, has_member}

-- the numbers that a table has at a number
abbrev pub listed : {S : Type 0} → IndexMap ℕ (Vec ℕ) S → ℕ → List ℕ
listed table member = option_map_or (λ numbers. numbers.items) (get nat_eq table member) []

-- a group has an identifier and counts for access
abbrev pub is_group : Directory → ℕ → Bool
is_group dir group = is_some (self_sid dir group) && is_security_enabled dir group

-- and names the object as a member
abbrev pub is_group_of : Directory → ℕ → ℕ → Bool
is_group_of dir member group = is_group dir group && has_member dir group member

-- the table has for each object the groups that name it
abbrev pub AreMembersOf : Directory → Members → Type 0
AreMembersOf dir members = (member group : ℕ) → has (listed members.groups member) group ≡ is_group_of dir member group

-- more groups stand at the places of members: those of which the test holds
abbrev pub Gains : (ℕ → ℕ → Bool) → (ℕ → List ℕ) → (ℕ → List ℕ) → Type 0
Gains test old new = (member group : ℕ) → has (new member) group ≡ (has (old member) group || test member group)

-- the table has the groups among these
abbrev pub IsTableOf : {S : Type 0} → Directory → List ℕ → IndexMap ℕ (Vec ℕ) S → Type 0
IsTableOf dir numbers table =
    (member group : ℕ) → has (listed table member) group ≡ (is_group_of dir member group && has numbers group)
