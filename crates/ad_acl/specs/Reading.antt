-- How an access control list is read, with the fault that stands first.
use Rattle.std.specs.Prelude.{ℕ, ◌-◌, Bool, true, false, ◌==◌, ◌||◌, nat_le, bit_and, if◌then◌else◌, Option, None}
use Rattle.std.specs.Prelude.{Some, List, Result, Ok, Err}
use Rattle.ad_bytes.specs.Reading.{Reading, ◌>>=◌, need, or_fault, fault_as, many_at}
use Rattle.ad_bytes.specs.Numbers.{byte_at, le_at, part_at}
use Rattle.ad_bytes.specs.declared.input.Short.{Short as Absent}
use Rattle.ad_ids.specs.declared.guid.Guid.{Guid}
use Rattle.ad_ids.specs.Guid.{guid_at}
use Rattle.ad_ids.specs.SidReading.{sid_at}
use Rattle.ad_acl.specs.declared.fault.AclFault.{AclFault}
use Rattle.ad_acl.specs.declared.fault.AclFault.TheVariants.{Short, Revision, Size, AceKind as KindFault, AceSize}
use Rattle.ad_acl.specs.declared.fault.AclFault.TheVariants.{Sid, Memory}
use Rattle.ad_acl.specs.declared.kind.AceKind.TheVariants.{Allow, Deny, Audit}
use Rattle.ad_acl.specs.declared.entry.Header.{Header}
use Rattle.ad_acl.specs.declared.entry.Shape.{Shape}
use Rattle.ad_acl.specs.declared.entry.Fixed.{Fixed}
use Rattle.ad_acl.specs.declared.list.ListHeader.{ListHeader}
use Rattle.ad_acl.specs.Entry.{Entry, says}

-- memory ran out
abbrev pub is_memory : AclFault → Bool
is_memory Short = false
is_memory (Revision n) = false
is_memory Size = false
is_memory (KindFault n) = false
is_memory AceSize = false
is_memory (Sid fault) = false
is_memory Memory = true

-- ---- one entry

unfoldable pub header_at : List ℕ → Reading Header Absent
header_at bytes = do
  code ← byte_at bytes
  flags ← byte_at code.1
  size ← le_at 2 flags.1
  Ok (record { code = code.0; flags = flags.0; size = size.0 }, size.1)

-- what a type byte says
unfoldable pub shape_of : ℕ → Result Shape AclFault
shape_of code =
    if code == 0 then Ok (record { kind = Allow; is_object = false })
    else (if code == 1 then Ok (record { kind = Deny; is_object = false })
    else (if code == 2 then Ok (record { kind = Audit; is_object = false })
    else (if code == 5 then Ok (record { kind = Allow; is_object = true })
    else (if code == 6 then Ok (record { kind = Deny; is_object = true })
    else (if code == 7 then Ok (record { kind = Audit; is_object = true })
    else Err (KindFault code))))))

-- the flags that are kept: all but 0x20
abbrev pub kept : ℕ → ℕ
kept flags = bit_and flags 223

-- the object flags, of which a plain entry has none
abbrev pub which_at : Bool → List ℕ → Reading ℕ Absent
which_at false bytes = Ok (0, bytes)
which_at true bytes = le_at 4 bytes

-- a GUID, where one stands
unfoldable pub guid_if : Bool → List ℕ → Reading (Option Guid) Absent
guid_if false bytes = Ok (None, bytes)
guid_if true bytes = do
  guid ← guid_at bytes
  Ok (Some guid.0, guid.1)

-- the fields of a fixed length
unfoldable pub fixed_at : Bool → List ℕ → Reading Fixed Absent
fixed_at is_object bytes = do
  mask ← le_at 4 bytes
  which ← which_at is_object mask.1
  object ← guid_if (says which.0 1) which.1
  inherited ← guid_if (says which.0 2) object.1
  Ok (record { mask = mask.0; object = object.0; inherited = inherited.0 }, inherited.1)

unfoldable pub entry_at : List ℕ → Reading Entry AclFault
entry_at bytes = do
  header ← or_fault AceSize (header_at bytes)
  shape ← shape_of header.0.code
  _ ← need (nat_le 4 header.0.size) AceSize
  body ← or_fault AceSize (part_at (header.0.size - 4) header.1)
  fixed ← or_fault AceSize (fixed_at shape.is_object body.0)
  sid ← fault_as Sid (sid_at fixed.1)
  Ok (
    record {
      kind = shape.kind;
      flags = kept header.0.flags;
      mask = fixed.0.mask;
      object = fixed.0.object;
      inherited = fixed.0.inherited;
      sid = sid.0;
    },
    body.1,
  )

-- ---- the list

unfoldable pub list_header_at : List ℕ → Reading ListHeader Absent
list_header_at bytes = do
  revision ← byte_at bytes
  free ← byte_at revision.1
  size ← le_at 2 free.1
  count ← le_at 2 size.1
  free_two ← le_at 2 count.1
  Ok (record { revision = revision.0; size = size.0; count = count.0 }, free_two.1)

unfoldable pub list_at : List ℕ → Reading (List Entry) AclFault
list_at bytes = do
  header ← or_fault Short (list_header_at bytes)
  _ ← need (header.0.revision == 2 || header.0.revision == 4) (Revision header.0.revision)
  _ ← need (nat_le 8 header.0.size) Size
  body ← or_fault Size (part_at (header.0.size - 8) header.1)
  entries ← many_at entry_at header.0.count body.0
  Ok (entries.0, body.1)
