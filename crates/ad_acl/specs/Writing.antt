-- The one encoding in which an entry and a list are written.
use Rattle.std.specs.Prelude.{◌≡◌, ℕ, ◌+◌, ◌^◌, ◌<◌, Bool, true, false, bit_and, Option, None, Some, List, []}
use Rattle.std.specs.Prelude.{◌∷◌, ◌++◌, length, nat_lt, if◌then◌else◌, Result, Ok, Err}
use Rattle.std.specs.List.{flat_map, list_any}
use Rattle.ad_bytes.specs.Numbers.{le_bytes}
use Rattle.ad_ids.specs.declared.guid.Guid.{Guid}
use Rattle.ad_ids.specs.Guid.{IsGuid}
use Rattle.ad_ids.specs.Sid.{IsSid, sid_bytes}
use Rattle.ad_acl.specs.declared.write_fault.AclWriteFault.{AclWriteFault}
use Rattle.ad_acl.specs.declared.write_fault.AclWriteFault.TheVariants.{TooLong, Memory}
use Rattle.ad_acl.specs.Entry.{Entry, type_code}

-- ---- one entry

-- an entry has object flags exactly where one of its GUIDs is there
abbrev pub has_guid : Option Guid → Option Guid → Bool
has_guid None None = false
has_guid None (Some inherited) = true
has_guid (Some object) None = true
has_guid (Some object) (Some inherited) = true

-- the object flags: 1 where the object type is there, 2 where the inherited type is
abbrev pub which_of : Option Guid → Option Guid → ℕ
which_of None None = 0
which_of None (Some inherited) = 2
which_of (Some object) None = 1
which_of (Some object) (Some inherited) = 3

abbrev pub which_bytes : Bool → ℕ → List ℕ
which_bytes false which = []
which_bytes true which = le_bytes 4 which

abbrev pub guid_bytes : Option Guid → List ℕ
guid_bytes None = []
guid_bytes (Some guid) = guid.bytes

-- the mask, the object flags, the object type and the inherited type
unfoldable pub fixed_bytes : ℕ → Option Guid → Option Guid → List ℕ
fixed_bytes mask object inherited = le_bytes 4 mask ++ (which_bytes (has_guid object inherited)
    (which_of object inherited) ++ (guid_bytes object ++ guid_bytes inherited))

-- what stands after the four bytes of an entry's header
unfoldable pub behind_header : Entry → List ℕ
behind_header e = fixed_bytes e.mask e.object e.inherited ++ sid_bytes e.sid

-- the type, the flags, the size and what stands after them
unfoldable pub entry_bytes : Entry → List ℕ
entry_bytes e = type_code (has_guid e.object e.inherited) e.kind ∷ e.flags ∷ le_bytes 2 (4 + length (behind_header e))
    ++ behind_header e

-- ---- the list

abbrev pub is_object_entry : Entry → Bool
is_object_entry e = has_guid e.object e.inherited

-- revision 4 exactly where an entry with a GUID stands in the list
abbrev pub revision_of : List Entry → ℕ
revision_of entries = if list_any is_object_entry entries then 4 else 2

-- the revision, a free byte, the size of the list, the number of its entries, two free bytes, and the entries
unfoldable pub list_bytes : List Entry → List ℕ
list_bytes entries = revision_of entries ∷ 0 ∷ le_bytes 2 (8 + length (flat_map entry_bytes entries))
    ++ (le_bytes 2 (length entries) ++ (le_bytes 2 0 ++ flat_map entry_bytes entries))

-- a list of more than 65,535 bytes isn't written
abbrev pub written : List Entry → Result (List ℕ) AclWriteFault
written entries = if nat_lt 65535 (length (list_bytes entries)) then Err TooLong else Ok (list_bytes entries)

-- memory ran out
abbrev pub is_memory : AclWriteFault → Bool
is_memory TooLong = false
is_memory Memory = true

-- ---- what an entry is

abbrev pub IsGuidIf : Option Guid → Type 0
IsGuidIf None = Unit {0}
IsGuidIf (Some guid) = IsGuid guid

-- an entry whose fields have their ranges
pub record IsEntry (e : Entry) : Type 0 where
  pub flags : e.flags < 256
  pub clear : bit_and e.flags 32 ≡ 0
  pub mask : e.mask < 2 ^ 32
  pub object : IsGuidIf e.object
  pub inherited : IsGuidIf e.inherited
  pub sid : IsSid e.sid
