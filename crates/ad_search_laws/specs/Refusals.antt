-- A request to change an object that the token doesn't see.
use Rattle.std.specs.Prelude.{◌≡◌, ◌⊎◌, ℕ, List, Some, None}
use Rattle.ad_ids.specs.declared.token.Token.{Token}
use Rattle.ad_ldap.specs.declared.requests.Rename.{Rename}
use Rattle.ad_ldap.specs.MessageValue.{OpValue, ModifyOf, AddOf, DeleteOf, RenameOf}
use Rattle.ad_dir_model.specs.Directory.{Directory}
use Rattle.ad_needs_rules.specs.Requests.{object_named}
use Rattle.ad_needs_rules.specs.Adding.{parent_named}

-- the text names no object that is seen
abbrev pub IsUnseen : Directory → Token → List ℕ → Type 0
IsUnseen dir token dn = object_named dir token dn ≡ None

-- the new superior is named, and so
pub record HasUnseenSuperior (dir : Directory) (token : Token) (r : Rename) : Type 0 where
  pub superior : List ℕ
  pub named : r.superior ≡ Some superior
  pub unseen : IsUnseen dir token superior

-- The request is about an object that isn't seen: its target, the parent of an addition, or the new superior of a
-- move.
abbrev pub IsAboutUnseen : Directory → Token → OpValue → Type 0
IsAboutUnseen dir token (ModifyOf m) = IsUnseen dir token m.dn
IsAboutUnseen dir token (DeleteOf dn) = IsUnseen dir token dn
IsAboutUnseen dir token (RenameOf r) = IsUnseen dir token r.dn ⊎ HasUnseenSuperior dir token r
IsAboutUnseen dir token (AddOf a) = parent_named dir token a ≡ None
IsAboutUnseen _ _ _ = ⊥
