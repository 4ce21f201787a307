-- Only for private contracts, invariants and proofs: what one entry decides of a list of tokens.
use Rattle.std.specs.Prelude.{ℕ, Bool, false, ◌&&◌, if◌then◌else◌, Option, Some, None, List, [], ◌∷◌}
use Rattle.ad_ids.specs.SidValue.{SidValue, same_sid}
use Rattle.ad_ids.specs.declared.guid.Guid.{Guid}
use Rattle.ad_acl.specs.Entry.{Entry}
use Rattle.ad_acl.specs.Mask.{mapped_has}
use Rattle.ad_access.specs.WellKnown.{owner_rights, principal_self}
use Rattle.ad_access.specs.Matching.{speaks}
use Rattle.ad_access.specs.Grant.{is_allow}
use Rattle.ad_rights.specs.Holding.{has}

-- whose identifier the entry asks for: the object's own, the owner's, or its own
abbrev pub meant : Entry → Option SidValue → SidValue → Option SidValue
meant entry self owner = if same_sid entry.sid principal_self then self
    else (if same_sid entry.sid owner_rights then Some owner else Some entry.sid)

-- the entry is about the right on the path
abbrev pub is_about_right : Entry → List Guid → ℕ → Bool
is_about_right entry path bit = speaks entry path && mapped_has entry.mask bit

-- by an index: the entry is about the right, and the place is one of those that hold whom it means
abbrev pub is_held : (SidValue → List ℕ) → Option SidValue → ℕ → Bool
is_held holders None place = false
is_held holders (Some sid) place = has (holders sid) place

abbrev pub decides_by : (SidValue → List ℕ) → Entry → Option SidValue → SidValue → List Guid → ℕ → ℕ → Bool
decides_by holders entry self owner path bit place =
    is_about_right entry path bit && is_held holders (meant entry self owner) place

-- the first entry that decides grants where it allows
unfoldable pub granted_by : (SidValue → List ℕ) → List Entry → Option SidValue → SidValue → List Guid → ℕ → ℕ → Bool
granted_by holders [] self owner path bit place = false
granted_by holders (entry ∷ others) self owner path bit place =
    if decides_by holders entry self owner path bit place then is_allow entry.kind
    else granted_by holders others self owner path bit place
