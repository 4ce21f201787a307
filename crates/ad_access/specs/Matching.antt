-- Which entries match a principal, and which speak of a path.
use Rattle.std.specs.Prelude.{Bool, true, false, not, ◌&&◌, Option, Some, None, List, if◌then◌else◌}
use Rattle.std.specs.List.{list_any}
use Rattle.ad_ids.specs.SidValue.{SidValue, same_sid}
use Rattle.ad_ids.specs.declared.guid.Guid.{Guid}
use Rattle.ad_ids.specs.Guid.{same_guid}
use Rattle.ad_acl.specs.declared.kind.AceKind.{AceKind}
use Rattle.ad_acl.specs.declared.kind.AceKind.TheVariants.{Allow, Deny, Audit}
use Rattle.ad_acl.specs.Entry.{Entry}
use Rattle.ad_acl.specs.Mask.{has_bit, inherit_only}
use Rattle.ad_access.specs.WellKnown.{owner_rights, principal_self}
use Rattle.ad_access.specs.Holder.{Holder, answers_to}

-- the object has an identifier of its own, and the principal answers to it
abbrev pub answers_to_self : AceKind → Holder → Option SidValue → Bool
answers_to_self kind holder None = false
answers_to_self kind holder (Some self) = answers_to kind holder self

-- The entry matches the principal: where it is for the object itself, the principal answers to the object's own
-- identifier, if it has one; where it is for the owner's rights, to the owner; else to the entry's identifier.
unfoldable pub matches : Entry → Holder → Option SidValue → SidValue → Bool
matches entry holder self owner =
    if same_sid entry.sid principal_self then answers_to_self entry.kind holder self
    else (if same_sid entry.sid owner_rights then answers_to entry.kind holder owner
    else answers_to entry.kind holder entry.sid)

-- the entry says nothing of the object itself, and is there to be inherited
abbrev pub is_inherit_only : Entry → Bool
is_inherit_only entry = has_bit entry.flags inherit_only

-- An entry without object type is about every path, one with it about the paths on which it stands.
abbrev pub is_about : Option Guid → List Guid → Bool
is_about None path = true
is_about (Some object) path = list_any (λ guid. same_guid guid object) path

-- the entry allows or denies, and does not ask for an audit event
abbrev pub decides_access : AceKind → Bool
decides_access Allow = true
decides_access Deny = true
decides_access Audit = false

-- The entry speaks of the path: it allows or denies, here and not only below, and its object type is absent or
-- stands on the path.
unfoldable pub speaks : Entry → List Guid → Bool
speaks entry path = decides_access entry.kind && not (is_inherit_only entry) && is_about entry.object path
