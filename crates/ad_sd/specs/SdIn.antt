-- The descriptor whose normal bytes some bytes are.
use Rattle.std.specs.Prelude.{ℕ, ◌==◌, Bool, false, List, [], length, Ok, Err}
use Rattle.ad_bytes.specs.Reading.{Reading}
use Rattle.ad_sd.specs.declared.exact.NotNormal.{NotNormal}
use Rattle.ad_sd.specs.declared.parts.AceList.{AceList}
use Rattle.ad_sd.specs.declared.parts.Sd.{Sd}
use Rattle.ad_sd.specs.NormalReading.{normal_at}
use Rattle.ad_ids.specs.SidValue.{SidValue}

abbrev pub nobody : SidValue
nobody = record { authority = 0; sub_authorities = [] }

abbrev pub no_list : AceList
no_list = record { protected = false; entries = [] }

-- what was read, or a blank
abbrev pub given : Reading Sd NotNormal → Sd
given (Ok x) = x.0
given (Err e) = record { owner = nobody; group = nobody; dacl = no_list; sacl = no_list }

abbrev pub is_alone : Reading Sd NotNormal → Bool
is_alone (Ok x) = length x.1 == 0
is_alone (Err e) = false

unfoldable pub sd_in : List ℕ → Sd
sd_in bytes = given (normal_at bytes)

-- the bytes are the normal bytes of a descriptor, and no more
unfoldable pub is_normal : List ℕ → Bool
is_normal bytes = is_alone (normal_at bytes)
