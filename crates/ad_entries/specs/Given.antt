-- What code keeps of an entry while it is made.
use Rattle.std.specs.Prelude.{ℕ, Bool, ◌==◌, if◌then◌else◌, Option, Some, None, List, length, map, Result, Ok, Err}
use Rattle.ad_acl.specs.declared.write_fault.AclWriteFault.{AclWriteFault}
use Rattle.ad_acl.specs.declared.write_fault.AclWriteFault.TheVariants as fault
use Rattle.ad_value.specs.Value.{Value}
use Rattle.ad_entries.specs.declared.descriptor.Descriptor.{Descriptor}
use Rattle.ad_entries.specs.declared.descriptor.Descriptor.TheVariants as descriptor
use Rattle.ad_entries.specs.declared.entry.Made.{Made}
use Rattle.ad_entries.specs.Entry.{Given, Entry, values_if}

abbrev pub descriptor_seen : Descriptor → Option (Result (List ℕ) AclWriteFault)
descriptor_seen descriptor.Absent = None
descriptor_seen (descriptor.Written bytes) = Some (Ok bytes.items)
descriptor_seen descriptor.TooLong = Some (Err fault.TooLong)

-- an attribute that is asked for is given where it has values
abbrev pub given_values : Bool → List ℕ → List (List ℕ) → Option Given
given_values types_only name values = if length values == 0 then None else Some (name, values_if types_only values)

-- an attribute that is asked for and may be read is given where it has a value
abbrev pub given_if : Bool → List ℕ → List Value → Option Given
given_if types_only name values = if length values == 0 then None
    else Some (name, values_if types_only (map (λ value. value.shown) values))

abbrev pub made_seen : Made → Entry
made_seen made = record { message = made.message.items; is_short = made.is_short }
