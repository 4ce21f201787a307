-- What decides a right for a token without restricting identifiers: where the rule of granting ends.
use Rattle.std.specs.Prelude.{ℕ, ◌+◌, Bool, true, false, ◌&&◌, ◌==◌, if◌then◌else◌, Option, List, [], ◌∷◌}
use Rattle.ad_ids.specs.SidValue.{SidValue}
use Rattle.ad_ids.specs.declared.guid.Guid.{Guid}
use Rattle.ad_ids.specs.declared.token.Token.{Token}
use Rattle.ad_acl.specs.declared.kind.AceKind.{AceKind}
use Rattle.ad_acl.specs.declared.kind.AceKind.TheVariants.{Allow, Deny, Audit}
use Rattle.ad_acl.specs.Entry.{Entry}
use Rattle.ad_acl.specs.Mask.{has_bit, write_owner, access_system_security}
use Rattle.ad_access.specs.Holder.{Holder, first_holder}
use Rattle.ad_access.specs.Grant.{decides, granted_as_owner}
use Rattle.ad_dir_model.specs.Directory.{Directory}
use Rattle.ad_dir_model.specs.Objects.{sd_at}
use Rattle.ad_dir_model.specs.Identity.{self_sid}
use Rattle.ad_who.specs.declared.decider.Decider.{Decider}
use Rattle.ad_who.specs.declared.decider.Decider.TheVariants.{Privilege, Owner, Allowed, Refused, Nothing}

-- an entry at a place decides: it allows, or refuses
abbrev pub by_kind : AceKind → ℕ → Decider
by_kind Allow place = Allowed place
by_kind Deny place = Refused place
by_kind Audit place = Refused place

-- the first entry that decides the right, where the list begins at this place
unfoldable pub deciding_from : ℕ → List Entry → Holder → Option SidValue → SidValue → List Guid → ℕ → Decider
deciding_from place [] holder self owner path bit = Nothing
deciding_from place (entry ∷ others) holder self owner path bit =
    if decides entry holder self owner path bit then by_kind entry.kind place
    else deciding_from (place + 1) others holder self owner path bit

-- of a holder: it has the right as an owner, or an entry decides, by its place from 1
unfoldable pub decider_for : SidValue → List Entry → Holder → Option SidValue → List Guid → ℕ → Decider
decider_for owner dacl holder self path bit =
    if granted_as_owner owner dacl holder bit then Owner else deciding_from 1 dacl holder self owner path bit

-- of the right to the SACL: the privilege of security, or nothing
abbrev pub by_security : Token → Decider
by_security token = if has_bit token.privileges 0 then Privilege else Nothing

-- of a token, whose only holder is the first
unfoldable pub decider : SidValue → List Entry → Token → Option SidValue → List Guid → ℕ → Decider
decider owner dacl token self path bit =
    if bit == access_system_security then by_security token
    else (if (bit == write_owner) && has_bit token.privileges 1 then Privilege
    else decider_for owner dacl (first_holder token) self path bit)

-- what decides grants the right
abbrev pub grants : Decider → Bool
grants Privilege = true
grants Owner = true
grants (Allowed place) = true
grants (Refused place) = false
grants Nothing = false

-- on an object, by the descriptor that is stored
unfoldable pub decider_at : Directory → Token → ℕ → List Guid → ℕ → Decider
decider_at dir token number path bit =
    let sd = sd_at dir.objects number in
    decider sd.owner sd.dacl.entries token (self_sid dir number) path bit
