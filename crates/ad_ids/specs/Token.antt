-- The bytes of an access token.
use Rattle.std.specs.Prelude.{◌≡◌, ◌⊎◌, ℕ, ◌<◌, ◌≤◌, Bool, IsTrue, List, [], ◌∷◌, length}
use Rattle.ad_bytes.specs.Reading.{StartsWith, SpellsEach}
use Rattle.ad_bytes.specs.Numbers.{SpellsByte, SpellsBe}
use Rattle.ad_ids.specs.declared.token.Token.{Token}
use Rattle.ad_ids.specs.declared.mark.Mark.{Mark}
use Rattle.ad_ids.specs.declared.mark.Mark.TheVariants.{Enabled, DenyOnly}
use Rattle.ad_ids.specs.SidValue.{SidValue, contains_sid}
use Rattle.ad_ids.specs.Sid.{SpellsSid}

-- the identifier is the user or an enabled group
abbrev pub holds : Token → SidValue → Bool
holds t sid = contains_sid (t.user ∷ t.groups) sid

-- the owner is the user or an enabled group
abbrev pub has_own_owner : Token → Bool
has_own_owner t = holds t t.owner

-- ---- groups with their marks

-- a mark is a byte, 0 for an enabled group and 1 for one that only denies
abbrev pub mark_byte : Mark → ℕ
mark_byte Enabled = 0
mark_byte DenyOnly = 1

abbrev pub SpellsMarked : Mark × SidValue → List ℕ → Type 0
SpellsMarked group text = StartsWith SpellsByte (mark_byte group.0) (SpellsSid group.1) text

-- the identifiers of the groups with this mark, in order
abbrev pub put_enabled : Mark → SidValue → List SidValue → List SidValue
put_enabled Enabled sid sids = sid ∷ sids
put_enabled DenyOnly sid sids = sids

abbrev pub put_deny_only : Mark → SidValue → List SidValue → List SidValue
put_deny_only Enabled sid sids = sids
put_deny_only DenyOnly sid sids = sid ∷ sids

abbrev pub enabled_of : List (Mark × SidValue) → List SidValue
enabled_of [] = []
enabled_of (group ∷ groups) = put_enabled group.0 group.1 (enabled_of groups)

abbrev pub deny_only_of : List (Mark × SidValue) → List SidValue
deny_only_of [] = []
deny_only_of (group ∷ groups) = put_deny_only group.0 group.1 (deny_only_of groups)

-- ---- the lists after the primary group

-- the three lists of identifiers that a token ends with
pub record Lists : Type 0 where
  pub groups : List SidValue
  pub deny_only : List SidValue
  pub restricting : List SidValue

-- a count of 16 bits, the most significant byte first, of at most 1,024, and as many identifiers
pub record SpellsSids (sids : List SidValue) (text : List ℕ) : Type 0 where
  pub count : length sids ≤ 1024
  pub text_is : StartsWith (SpellsBe 2) (length sids) (SpellsEach SpellsSid sids) text

-- version 1 has groups alone
pub record SpellsPlain (lists : Lists) (text : List ℕ) : Type 0 where
  pub groups : SpellsSids lists.groups text
  pub deny_only : lists.deny_only ≡ []
  pub restricting : lists.restricting ≡ []

-- Version 2 has groups with their marks in one list, whose order among different marks is free, and then the
-- restricting identifiers.
pub record SpellsWithMarks (lists : Lists) (text : List ℕ) : Type 0 where
  pub marked : List (Mark × SidValue)
  pub count : length marked ≤ 1024
  pub groups : lists.groups ≡ enabled_of marked
  pub deny_only : lists.deny_only ≡ deny_only_of marked
  pub text_is : StartsWith (SpellsBe 2) (length marked)
      (StartsWith (SpellsEach SpellsMarked) marked (SpellsSids lists.restricting)) text

-- by the version
abbrev pub SpellsLists : ℕ → Lists → List ℕ → Type 0
SpellsLists version lists text = ((version ≡ 1) × SpellsPlain lists text) ⊎ ((version ≡ 2) × SpellsWithMarks lists text)

-- ---- the token

abbrev pub lists_of : Token → Lists
lists_of t = record { groups = t.groups; deny_only = t.deny_only; restricting = t.restricting }

-- the version, the privileges, the user, the owner, the primary group and the lists
pub record SpellsFields (t : Token) (text : List ℕ) : Type 0 where
  pub privileges : t.privileges < 8
  pub text_is : StartsWith SpellsByte t.version (StartsWith SpellsByte t.privileges
      (StartsWith SpellsSid t.user (StartsWith SpellsSid t.owner
      (StartsWith SpellsSid t.primary (SpellsLists t.version (lists_of t)))))) text

-- a token is encoded by its fields, and its owner is its own
abbrev pub SpellsToken : Token → List ℕ → Type 0
SpellsToken t text = SpellsFields t text × IsTrue (has_own_owner t)
