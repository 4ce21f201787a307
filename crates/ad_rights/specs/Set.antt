-- Who of a list is granted a right by a descriptor.
use Rattle.std.specs.Prelude.{◌≡◌, ℕ, Bool, Option, Some, List, [], map, slice_get}
use Rattle.ad_ids.specs.SidValue.{SidValue, same_sid}
use Rattle.ad_ids.specs.declared.guid.Guid.{Guid}
use Rattle.ad_ids.specs.declared.token.Token.{Token}
use Rattle.ad_acl.specs.Entry.{Entry}
use Rattle.ad_sd.specs.declared.parts.Sd.{Sd}
use Rattle.ad_access.specs.WellKnown.{principal_self}
use Rattle.ad_access.specs.Grant.{granted}

-- of each token whether the access check grants it the right on the path, to the object with the own identifier
unfoldable pub granted_set : Sd → List Token → Option SidValue → List Guid → ℕ → List Bool
granted_set sd tokens self path bit = map (λ token. granted sd.owner sd.dacl.entries token self path bit) tokens

-- no group only denies, and nothing is restricted
pub record IsBare (token : Token) : Type 0 where
  pub deny_only : token.deny_only ≡ []
  pub restricting : token.restricting ≡ []

abbrev pub AreBare : List Token → Type 0
AreBare tokens = (place : ℕ) (token : Token) → slice_get tokens place ≡ Some token → IsBare token

-- the entry is for the object itself
abbrev pub is_for_self : Entry → Bool
is_for_self entry = same_sid entry.sid principal_self
