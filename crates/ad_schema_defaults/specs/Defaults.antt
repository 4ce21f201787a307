-- The lists that a new object has where none are given: those of the default descriptor of its class. As in
-- loading, its text is read with the domain's identifier, and a class without one has a default of its own.
use Rattle.std.specs.Prelude.{ℕ, Option, Some, None, codes, List, slice_get, Result, Ok, Err}
use Rattle.std.specs.Option.{option_and_then}
use Rattle.ad_ids.specs.SidValue.{SidValue}
use Rattle.ad_sd.specs.declared.parts.SdParts.{SdParts}
use Rattle.ad_sddl.specs.declared.fault.SddlFault.{SddlFault}
use Rattle.ad_sddl.specs.Grammar.{no_parts}
use Rattle.ad_sddl.specs.Reading.{read_of}
use Rattle.ad_schema.specs.declared.line.SchemaRecord.{SchemaRecord}
use Rattle.ad_schema.specs.Classes.{classes_of}

abbrev pub parts_or_none : Result SdParts SddlFault → SdParts
parts_or_none (Ok parts) = parts
parts_or_none (Err e) = no_parts

abbrev pub default_text : List ℕ
default_text = codes "O:BAG:BAD:(A;;GA;;;BA)(A;;GA;;;SY)"

unfoldable pub default_in : Option SidValue → Option (List ℕ) → SdParts
default_in domain None = parts_or_none (read_of domain default_text)
default_in domain (Some text) = parts_or_none (read_of domain text)

unfoldable pub default_of : List SchemaRecord → Option SidValue → ℕ → SdParts
default_of schema domain class = default_in domain
    (option_and_then (λ info. info.default_sd) (slice_get (classes_of schema) class))
