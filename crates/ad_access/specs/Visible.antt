-- When an object below the root is seen.
use Rattle.std.specs.Prelude.{ℕ, Bool, ◌&&◌, ◌||◌, Option, []}
use Rattle.ad_ids.specs.SidValue.{SidValue}
use Rattle.ad_ids.specs.declared.token.Token.{Token}
use Rattle.ad_sd.specs.declared.parts.Sd.{Sd}
use Rattle.ad_acl.specs.Mask.{list_children, list_object}
use Rattle.ad_access.specs.Grant.{granted}

-- the right is granted on the object as a whole
abbrev pub grants_on_object : Sd → Token → Option SidValue → ℕ → Bool
grants_on_object sd token self bit = granted sd.owner sd.dacl.entries token self [] bit

-- An object is seen where to list the children is granted on its parent, or, in list-object mode, to list the object
-- on the parent and on the object itself. Each is judged with its own identifier.
abbrev pub sees : Bool → Sd → Option SidValue → Sd → Option SidValue → Token → Bool
sees list_mode parent parent_self own own_self token =
    grants_on_object parent token parent_self list_children
    || (list_mode && (grants_on_object parent token parent_self list_object && grants_on_object own token own_self
    list_object))
