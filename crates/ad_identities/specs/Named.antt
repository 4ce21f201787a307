-- The identity that a text names.
use Rattle.std.specs.Prelude.{ℕ, if◌then◌else◌, Option, Some, None, List, Result, Ok, Err}
use Rattle.std.specs.Option.{option_map_or}
use Rattle.ad_ids.specs.SidValue.{SidValue}
use Rattle.ad_ids.specs.SidFront.{sid_of_text}
use Rattle.ad_dir_model.specs.Identity.{with_sid}
use Rattle.ad_dir_model.specs.Directory.{Directory}
use Rattle.ad_principals.specs.Groups.{is_principal}
use Rattle.ad_principals.specs.Named.{named, or_no_object}
use Rattle.ad_principals.specs.declared.fault.NameFault.{NameFault}
use Rattle.ad_identities.specs.declared.identity.Identity.{Identity}
use Rattle.ad_identities.specs.Identities.{is_without_principal, identity_at, lone}

-- the identity of an object; none of one that is no principal
abbrev pub object_identity : Directory → Result ℕ NameFault → Result (Option Identity) NameFault
object_identity dir (Ok number) = Ok (if is_principal dir number then identity_at dir number else None)
object_identity dir (Err cause) = Err cause

-- that of an identifier: without a principal where it is one of these, else that of its object
abbrev pub sid_identity : Directory → SidValue → Result (Option Identity) NameFault
sid_identity dir sid = if is_without_principal dir sid then Ok (Some (lone sid))
    else object_identity dir (or_no_object (with_sid dir sid))

-- A text that is an identifier's says that one, and any other the object that it names.
unfoldable pub identity_named : Directory → List ℕ → Result (Option Identity) NameFault
identity_named dir text = option_map_or (sid_identity dir) (sid_of_text text) (object_identity dir (named dir text))
