-- The descriptor that a new object has as its own.
use Rattle.std.specs.Prelude.{Option, None, Some, unwrap_or}
use Rattle.std.specs.Option.{option_or}
use Rattle.ad_ids.specs.SidValue.{SidValue}
use Rattle.ad_sd.specs.declared.parts.Sd.{Sd}
use Rattle.ad_sd.specs.declared.parts.SdParts.{SdParts}
use Rattle.ad_sd.specs.Sd.{list_or_empty}

-- where nothing is given, no part is
abbrev pub parts_given : Option SdParts → SdParts
parts_given None = record { owner = None; group = None; dacl = None; sacl = None }
parts_given (Some parts) = parts

-- Each part is the given one; else a list is the default one, and else empty, and the owner and the group are these.
-- The default's owner and group are never used.
unfoldable pub chosen : Option SdParts → SdParts → SidValue → SidValue → Sd
chosen given default owner group =
    let parts = parts_given given in
    record {
      owner = unwrap_or parts.owner owner;
      group = unwrap_or parts.group group;
      dacl = list_or_empty (option_or parts.dacl default.dacl);
      sacl = list_or_empty (option_or parts.sacl default.sacl);
    }
