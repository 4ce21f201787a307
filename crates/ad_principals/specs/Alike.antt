-- When one directory gives a principal no fewer groups than another one does.
use Rattle.std.specs.Prelude.{◌≡◌, ℕ, true, List}
use Rattle.ad_ids.specs.SidValue.{SidValue, contains_sid}
use Rattle.ad_dir_model.specs.Identity.{self_sid}
use Rattle.ad_dir_model.specs.Directory.{Directory}
use Rattle.ad_principals.specs.Groups.{is_security_enabled, has_member, primary_of, history_of}

-- The second has the members of the first, and maybe more of them: identifiers and primary groups are the same, each
-- group that counts still does, and whom its member names it still names. What an object had before it still had.
pub record HasTheMembersOf (dir more : Directory) : Type 0 where
  pub sids : (number : ℕ) → self_sid more number ≡ self_sid dir number
  pub primary : (number : ℕ) → primary_of more number ≡ primary_of dir number
  pub enabled : (group : ℕ) → is_security_enabled dir group ≡ true → is_security_enabled more group ≡ true
  pub members : (group member : ℕ) → has_member dir group member ≡ true → has_member more group member ≡ true
  pub history : (number : ℕ) (sid : SidValue) → contains_sid (history_of dir number) sid ≡ true
      → contains_sid (history_of more number) sid ≡ true

-- the same identifiers, in any order and each as often as one likes
abbrev pub AreTheSame : List SidValue → List SidValue → Type 0
AreTheSame sids others = (sid : SidValue) → contains_sid sids sid ≡ contains_sid others sid
