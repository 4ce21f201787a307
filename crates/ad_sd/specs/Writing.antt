-- The one encoding in which the parts of a descriptor are written.
use Rattle.std.specs.Prelude.{◌≡◌, ℕ, ◌+◌, Bool, if◌then◌else◌, Option, None, Some, List, [], ◌++◌, length, Result, Ok}
use Rattle.std.specs.Option.{is_some}
use Rattle.ad_bytes.specs.Reading.{◌>>=◌}
use Rattle.ad_ids.specs.SidValue.{SidValue}
use Rattle.ad_ids.specs.Sid.{IsSid, sid_bytes}
use Rattle.ad_acl.specs.declared.write_fault.AclWriteFault.{AclWriteFault}
use Rattle.ad_acl.specs.Acl.{SpellsList}
use Rattle.ad_acl.specs.Writing.{written as list_written}
use Rattle.ad_sd.specs.declared.parts.AceList.{AceList}
use Rattle.ad_sd.specs.declared.parts.SdParts.{SdParts}
use Rattle.ad_sd.specs.Sd.{headed}

-- the bytes of a part, and none where it is absent
abbrev pub sid_part : Option SidValue → List ℕ
sid_part None = []
sid_part (Some sid) = sid_bytes sid

abbrev pub list_part : Option AceList → Result (List ℕ) AclWriteFault
list_part None = Ok []
list_part (Some list) = list_written list.entries

-- what the identifier of a part is, where it is there
abbrev pub IsSidIf : Option SidValue → Type 0
IsSidIf None = Unit {0}
IsSidIf (Some sid) = IsSid sid

-- The control bits of a list: that it is there and how it came there (0x400 and 0x800), and whether it is protected.
abbrev pub dacl_bits : Option AceList → ℕ
dacl_bits None = 0
dacl_bits (Some list) = if list.protected then 0x1404 else 0x404

abbrev pub sacl_bits : Option AceList → ℕ
sacl_bits None = 0
sacl_bits (Some list) = if list.protected then 0x2810 else 0x810

-- an absent part has offset 0
abbrev pub offset_if : Bool → ℕ → ℕ
offset_if there at = if there then at else 0

-- the header with the control bit 0x8000, and owner, group, SACL and DACL without gaps
unfoldable pub laid_out : SdParts → List ℕ → List ℕ → List ℕ
laid_out p sacl dacl =
    headed 1 0 (0x8000 + dacl_bits p.dacl + sacl_bits p.sacl)
    (offset_if (is_some p.owner) 20)
    (offset_if (is_some p.group) (20 + length (sid_part p.owner)))
    (offset_if (is_some p.sacl) (20 + length (sid_part p.owner) + length (sid_part p.group)))
    (offset_if (is_some p.dacl) (20 + length (sid_part p.owner) + length (sid_part p.group) + length sacl))
    (sid_part p.owner ++ (sid_part p.group ++ (sacl ++ dacl)))

-- a descriptor with a list that is too long isn't written
unfoldable pub written : SdParts → Result (List ℕ) AclWriteFault
written p = do
  sacl ← list_part p.sacl
  dacl ← list_part p.dacl
  Ok (laid_out p sacl dacl)

-- the bytes are an encoding of the list, where it is there
abbrev pub SpellsListIf : Option AceList → List ℕ → Type 0
SpellsListIf None text = text ≡ []
SpellsListIf (Some list) text = SpellsList list.entries text
