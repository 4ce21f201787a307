-- The bytes of a GUID, and how it is read.
use Rattle.std.specs.Prelude.{◌≡◌, ℕ, Bool, List, length, Ok}
use Rattle.std.specs.Str.{bytes_eq}
use Rattle.ad_bytes.specs.Reading.{IsBytes, Reading, ◌>>=◌}
use Rattle.ad_bytes.specs.Numbers.{part_at}
use Rattle.ad_bytes.specs.declared.input.Short.{Short}
use Rattle.ad_ids.specs.declared.guid.Guid.{Guid}

-- 16 bytes
pub record IsGuid (g : Guid) : Type 0 where
  pub sixteen : length g.bytes ≡ 16
  pub fits : IsBytes g.bytes

-- the two are one GUID
abbrev pub same_guid : Guid → Guid → Bool
same_guid a b = bytes_eq a.bytes b.bytes

-- a GUID is encoded by its bytes
abbrev pub SpellsGuid : Guid → List ℕ → Type 0
SpellsGuid g text = IsGuid g × (text ≡ g.bytes)

unfoldable pub guid_at : List ℕ → Reading Guid Short
guid_at bytes = do
  part ← part_at 16 bytes
  Ok (record { bytes = part.0 }, part.1)
