-- When a right is granted, one right at a time.
use Rattle.std.specs.Prelude.{ℕ, Bool, true, false, not, ◌&&◌, ◌||◌, ◌==◌, Option, List, [], ◌∷◌, length, if◌then◌else◌}
use Rattle.std.specs.List.{list_any}
use Rattle.ad_ids.specs.SidValue.{SidValue, same_sid}
use Rattle.ad_ids.specs.declared.guid.Guid.{Guid}
use Rattle.ad_ids.specs.declared.token.Token.{Token}
use Rattle.ad_acl.specs.declared.kind.AceKind.{AceKind}
use Rattle.ad_acl.specs.declared.kind.AceKind.TheVariants.{Allow, Deny, Audit}
use Rattle.ad_acl.specs.Entry.{Entry}
use Rattle.ad_acl.specs.Mask.{has_bit, mapped_has, read_control, write_dac, write_owner, access_system_security}
use Rattle.ad_access.specs.Privileges.{security, take_ownership}
use Rattle.ad_access.specs.WellKnown.{owner_rights}
use Rattle.ad_access.specs.Holder.{Holder, first_holder, second_holder, holds}
use Rattle.ad_access.specs.Matching.{matches, speaks, is_inherit_only}

-- The entry decides the right for the principal: it speaks of the path, matches, and has the right after generic
-- mapping.
abbrev pub decides : Entry → Holder → Option SidValue → SidValue → List Guid → ℕ → Bool
decides entry holder self owner path bit =
    speaks entry path && matches entry holder self owner && mapped_has entry.mask bit

abbrev pub is_allow : AceKind → Bool
is_allow Allow = true
is_allow Deny = false
is_allow Audit = false

-- The first entry that decides the right grants it where it allows. Where none does, it is not granted.
unfoldable pub granted_by_entries : List Entry → Holder → Option SidValue → SidValue → List Guid → ℕ → Bool
granted_by_entries [] holder self owner path bit = false
granted_by_entries (entry ∷ others) holder self owner path bit =
    if decides entry holder self owner path bit then is_allow entry.kind
    else granted_by_entries others holder self owner path bit

-- The entry, of whatever kind, sets the owner's rights: it is for S-1-3-4, here and not only below.
abbrev pub sets_owner_rights : Entry → Bool
sets_owner_rights entry = same_sid entry.sid owner_rights && not (is_inherit_only entry)

-- what an owner has of itself: to read the descriptor and to write its DACL
abbrev pub is_implicit_owner_right : ℕ → Bool
is_implicit_owner_right bit = (bit == read_control) || (bit == write_dac)

-- the right is one that owners have, the principal holds the owner, and no entry sets the owner's rights
unfoldable pub granted_as_owner : SidValue → List Entry → Holder → ℕ → Bool
granted_as_owner owner dacl holder bit =
    is_implicit_owner_right bit && holds holder owner && not (list_any sets_owner_rights dacl)

-- the right is granted to the one principal: as to an owner, or else by the entries
abbrev pub granted_to : SidValue → List Entry → Holder → Option SidValue → List Guid → ℕ → Bool
granted_to owner dacl holder self path bit =
    granted_as_owner owner dacl holder bit || granted_by_entries dacl holder self owner path bit

-- the right is granted to each principal of the token
abbrev pub granted_to_holders : SidValue → List Entry → Token → Option SidValue → List Guid → ℕ → Bool
granted_to_holders owner dacl token self path bit =
    granted_to owner dacl (first_holder token) self path bit
    && ((length token.restricting == 0) || granted_to owner dacl (second_holder token) self path bit)

-- The right is granted to the token. To read and write the SACL is granted exactly by the privilege for it,
-- whatever the DACL has, and to write the owner by the privilege for it. Any other right, and to write the
-- owner without the privilege, is granted where each principal is granted it.
abbrev pub granted : SidValue → List Entry → Token → Option SidValue → List Guid → ℕ → Bool
granted owner dacl token self path bit =
    if bit == access_system_security then has_bit token.privileges security
    else (if (bit == write_owner) && has_bit token.privileges take_ownership then true
    else granted_to_holders owner dacl token self path bit)
