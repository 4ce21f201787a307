-- Where the fields of an entry stand in its bytes.
use Rattle.std.specs.Prelude.{◌≡◌, ℕ, ◌+◌, ◌*◌, ◌≤◌, Bool, true, false, ◌&&◌, ◌==◌, nat_le, bit_and}
use Rattle.std.specs.Prelude.{if◌then◌else◌, Option, None, Some, List, length, drop, slice_index}
use Rattle.byteorder.specs.Endian.{little_number}
use Rattle.ad_acl.specs.declared.kind.AceKind.{AceKind}
use Rattle.ad_acl.specs.declared.kind.AceKind.TheVariants.{Allow, Deny, Audit}
use Rattle.ad_acl.specs.Entry.{says}

-- what an entry with this type byte does
abbrev pub kind_of : ℕ → AceKind
kind_of code =
    if code == 0 then Allow
    else (if code == 1 then Deny
    else (if code == 5 then Allow
    else (if code == 6 then Deny
    else Audit)))

-- the type byte is one of those with object flags
abbrev pub has_flags : List ℕ → Bool
has_flags bytes = nat_le 5 (slice_index bytes 0)

-- the object flags, of which a plain entry has none
abbrev pub which_in : List ℕ → ℕ
which_in bytes = if has_flags bytes then little_number 4 (drop 8 bytes) else 0

-- the bytes of a GUID that stands, or none
abbrev pub guid_len : Bool → ℕ
guid_len false = 0
guid_len true = 16

-- the offset of what stands after the object flags
abbrev pub guids_offset : List ℕ → ℕ
guids_offset bytes = if has_flags bytes then 12 else 8

-- the offset of the identifier
abbrev pub sid_offset : List ℕ → ℕ
sid_offset bytes = guids_offset bytes + guid_len (says (which_in bytes) 1) + guid_len (says (which_in bytes) 2)

-- the same of an entry as it is written, by its type and its object flags: none where no entry is written with these
abbrev pub offset_after_flags : ℕ → Option ℕ
offset_after_flags which =
    if which == 1 then Some 28
    else (if which == 2 then Some 28
    else (if which == 3 then Some 44
    else None))

abbrev pub written_offset : List ℕ → Option ℕ
written_offset bytes =
    if nat_le (slice_index bytes 0) 2 then Some 8
    else (if nat_le 5 (slice_index bytes 0) && nat_le (slice_index bytes 0) 7
    then offset_after_flags (little_number 4 (drop 8 bytes))
    else None)

-- an identifier's header stands at the offset, and says that it takes so many bytes
pub record SaysSid (bytes : List ℕ) (at len : ℕ) : Type 0 where
  pub revision : slice_index bytes at ≡ 1
  pub one_at_least : 1 ≤ slice_index bytes (at + 1)
  pub at_most_15 : slice_index bytes (at + 1) ≤ 15
  pub len_is : len ≡ 8 + 4 * slice_index bytes (at + 1)

-- what tells of bytes that they begin with an entry as it is written, of this size
pub record IsExact (bytes : List ℕ) (size : ℕ) : Type 0 where
  pub at : ℕ
  pub len : ℕ
  pub offset : written_offset bytes ≡ Some at
  pub sid : SaysSid bytes at len
  pub clear : bit_and (slice_index bytes 1) 32 ≡ 0
  pub size_is : size ≡ at + len
  pub said : little_number 2 (drop 2 bytes) ≡ size
  pub long : size ≤ length bytes
