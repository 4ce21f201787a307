-- How a self-relative descriptor is read, with the fault that stands first.
use Rattle.std.specs.Prelude.{ℕ, Bool, true, false, not, ◌==◌, ◌||◌, nat_lt, if◌then◌else◌, Option, None, Some, List}
use Rattle.std.specs.Prelude.{length, drop, Result, Ok, Err}
use Rattle.ad_bytes.specs.Reading.{Reading, ◌>>=◌, need, or_fault, fault_as}
use Rattle.ad_bytes.specs.Numbers.{byte_at, le_at}
use Rattle.ad_bytes.specs.declared.input.Short.{Short as Absent}
use Rattle.ad_ids.specs.declared.sid.SidFault.{SidFault}
use Rattle.ad_ids.specs.SidValue.{SidValue}
use Rattle.ad_ids.specs.SidReading.{sid_at}
use Rattle.ad_acl.specs.declared.fault.AclFault.{AclFault}
use Rattle.ad_acl.specs.declared.fault.AclFault.TheVariants as list_fault
use Rattle.ad_acl.specs.Entry.{says}
use Rattle.ad_acl.specs.Reading.{list_at}
use Rattle.ad_sd.specs.declared.fault.SdFault.{SdFault}
use Rattle.ad_sd.specs.declared.fault.SdFault.TheVariants.{Short, Revision, Offset, Owner, Group, Sacl, NullDacl}
use Rattle.ad_sd.specs.declared.fault.SdFault.TheVariants.{Dacl, NoOwner, NoGroup, NoDacl, Memory}
use Rattle.ad_sd.specs.declared.parts.AceList.{AceList}
use Rattle.ad_sd.specs.declared.parts.Sd.{Sd}
use Rattle.ad_sd.specs.declared.parts.SdParts.{SdParts}
use Rattle.ad_sd.specs.declared.reading.Header.{Header}
use Rattle.ad_sd.specs.Sd.{dacl_present, sacl_present, dacl_protected, sacl_protected, list_or_empty}

-- the one fault that no bytes have
abbrev pub is_memory : SdFault → Bool
is_memory Memory = true
is_memory _ = false

-- ---- the header

unfoldable pub header_at : List ℕ → Reading Header Absent
header_at bytes = do
  revision ← byte_at bytes
  free ← byte_at revision.1
  control ← le_at 2 free.1
  owner ← le_at 4 control.1
  group ← le_at 4 owner.1
  sacl ← le_at 4 group.1
  dacl ← le_at 4 sacl.1
  Ok (
    record {
      revision = revision.0;
      control = control.0;
      owner = owner.0;
      group = group.0;
      sacl = sacl.0;
      dacl
          = dacl.0;
    },
    dacl.1,
  )

-- ---- the parts

-- the bytes from an offset on, which is before their end
unfoldable pub from_offset : ℕ → ℕ → List ℕ → Result (List ℕ) SdFault
from_offset part offset bytes = do
  _ ← need (nat_lt offset (length bytes)) (Offset part)
  Ok (drop offset bytes)

-- the fault of an identifier or of a list, by the part that it is
abbrev pub sid_named : ℕ → SidFault → SdFault
sid_named part fault = if part == 1 then Owner fault else Group fault

abbrev pub list_named : ℕ → AclFault → SdFault
list_named part fault = if part == 8 then Sacl fault else Dacl fault

-- an identifier that isn't absent
unfoldable pub present_sid : ℕ → (SidFault → SdFault) → ℕ → List ℕ → Result (Option SidValue) SdFault
present_sid part name offset bytes = do
  there ← from_offset part offset bytes
  sid ← fault_as name (sid_at there)
  Ok (Some sid.0)

abbrev pub sid_of : ℕ → (SidFault → SdFault) → ℕ → List ℕ → Result (Option SidValue) SdFault
sid_of part name offset bytes = if offset == 0 then Ok None else present_sid part name offset bytes

-- a list that isn't absent
unfoldable pub present_list : ℕ → (AclFault → SdFault) → Bool → ℕ → List ℕ → Result (Option AceList) SdFault
present_list part name protected offset bytes = do
  there ← from_offset part offset bytes
  list ← fault_as name (list_at there)
  Ok (Some (record { protected = protected; entries = list.0 }))

abbrev pub sacl_of : ℕ → ℕ → List ℕ → Result (Option AceList) SdFault
sacl_of control offset bytes = if not (says control sacl_present) || offset == 0 then Ok None
    else present_list 8 (list_named 8) (says control sacl_protected) offset bytes

abbrev pub dacl_of : ℕ → ℕ → List ℕ → Result (Option AceList) SdFault
dacl_of control offset bytes =
    if not (says control dacl_present) then Ok None
    else (if offset == 0 then Err NullDacl
    else present_list 4 (list_named 4) (says control dacl_protected) offset bytes)

-- ---- the descriptor

-- the parts that the bytes have
unfoldable pub parts_of : List ℕ → Result SdParts SdFault
parts_of bytes = do
  header ← or_fault Short (header_at bytes)
  _ ← need (header.0.revision == 1) (Revision header.0.revision)
  owner ← sid_of 1 (sid_named 1) header.0.owner bytes
  group ← sid_of 2 (sid_named 2) header.0.group bytes
  sacl ← sacl_of header.0.control header.0.sacl bytes
  dacl ← dacl_of header.0.control header.0.dacl bytes
  Ok (record { owner = owner; group = group; dacl = dacl; sacl = sacl })

-- a part that has to be there
abbrev pub there_or : {A : Type 0} → SdFault → Option A → Result A SdFault
there_or fault None = Err fault
there_or fault (Some x) = Ok x

unfoldable pub sd_of : List ℕ → Result Sd SdFault
sd_of bytes = do
  parts ← parts_of bytes
  owner ← there_or NoOwner parts.owner
  group ← there_or NoGroup parts.group
  dacl ← there_or NoDacl parts.dacl
  Ok (record { owner = owner; group = group; dacl = dacl; sacl = list_or_empty parts.sacl })

-- the fault of a list, as that of its part
abbrev pub of_list : (AclFault → SdFault) → AclFault → SdFault
of_list name list_fault.Memory = Memory
of_list name fault = name fault
