-- The text of a GUID.
use Rattle.std.specs.Prelude.{◌≡◌, ℕ, ◌==◌, List, length, codes, Option, Some, None, option_map, if◌then◌else◌}
use Rattle.uuid.specs.Text.{lower, hyphenated_text, parsed_hyphenated}
use Rattle.uuid.specs.Parts.{swap_fields}
use Rattle.ad_ids.specs.declared.guid.Guid.{Guid}

-- 16 bytes are a GUID's, in packet order
abbrev pub guid_of : List ℕ → Option Guid
guid_of bytes = if length bytes == 16 then Some (record { bytes = bytes }) else None

-- the one text that is written: 8, 4, 4, 4 and 12 lower-case digits, the three first fields with their most
-- significant digit first
abbrev pub guid_text : Guid → List ℕ
guid_text g = hyphenated_text lower (swap_fields g.bytes)

-- the GUID that a text encodes: 36 characters in that form, with digits in either case; none where it encodes none
unfoldable pub guid_of_text : List ℕ → Option Guid
guid_of_text text = option_map (λ bytes. record { bytes = swap_fields bytes }) (parsed_hyphenated text)

-- a text of 36 characters in that form, with digits in either case
abbrev pub SpellsGuidText : Guid → List ℕ → Type 0
SpellsGuidText g text = (length g.bytes ≡ 16) × (parsed_hyphenated text ≡ Some (swap_fields g.bytes))

-- that of a GUID, or a hyphen where there is none
abbrev pub guid_or_hyphen : Option Guid → List ℕ
guid_or_hyphen None = codes "-"
guid_or_hyphen (Some guid) = guid_text guid
