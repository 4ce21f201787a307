-- A token with other groups, and the entries that deny by one identifier.
use Rattle.std.specs.Prelude.{Bool, true, false, ◌&&◌, Option, List, [], ◌∷◌}
use Rattle.std.specs.List.{list_any}
use Rattle.ad_ids.specs.SidValue.{SidValue}
use Rattle.ad_ids.specs.declared.guid.Guid.{Guid}
use Rattle.ad_ids.specs.declared.token.Token.{Token}
use Rattle.ad_acl.specs.declared.kind.AceKind.{AceKind}
use Rattle.ad_acl.specs.declared.kind.AceKind.TheVariants.{Allow, Deny, Audit}
use Rattle.ad_acl.specs.Entry.{Entry}
use Rattle.ad_access.specs.Holder.{Holder}
use Rattle.ad_access.specs.Matching.{matches, speaks}

-- the token, with these groups, and these that only deny
abbrev pub grouped : Token → List SidValue → List SidValue → Token
grouped token groups deny_only = record {
  version = token.version;
  privileges = token.privileges;
  user = token.user;
  owner = token.owner;
  primary = token.primary;
  groups = groups;
  deny_only = deny_only;
  restricting = token.restricting;
}

-- a principal that is one identifier alone
abbrev pub alone : SidValue → Holder
alone sid = record { held = sid ∷ []; denied_by = sid ∷ [] }

abbrev pub is_deny : AceKind → Bool
is_deny Allow = false
is_deny Deny = true
is_deny Audit = false

-- The entry denies something on the path to the identifier: it is a deny entry that speaks of the path and is for it,
-- by its own identifier, or as the object's own one or the owner.
abbrev pub denies : Option SidValue → SidValue → List Guid → SidValue → Entry → Bool
denies self owner path sid entry = is_deny entry.kind && (speaks entry path && matches entry (alone sid) self owner)

-- one of the entries does
abbrev pub some_denies : List Entry → Option SidValue → SidValue → List Guid → SidValue → Bool
some_denies dacl self owner path sid = list_any (denies self owner path sid) dacl
