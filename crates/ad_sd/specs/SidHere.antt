-- The identifier at the start of bytes.
use Rattle.std.specs.Prelude.{Bool, true, false, ℕ, List, [], Ok, Err}
use Rattle.ad_bytes.specs.Reading.{Reading}
use Rattle.ad_ids.specs.declared.sid.SidFault.{SidFault}
use Rattle.ad_ids.specs.SidReading.{sid_at}
use Rattle.ad_ids.specs.SidValue.{SidValue}

-- what was read, or a blank
abbrev pub given : Reading SidValue SidFault → SidValue
given (Ok x) = x.0
given (Err e) = record { authority = 0; sub_authorities = [] }

abbrev pub is_given : Reading SidValue SidFault → Bool
is_given (Ok x) = true
is_given (Err e) = false

unfoldable pub sid_of : List ℕ → SidValue
sid_of bytes = given (sid_at bytes)

-- the bytes begin with one
unfoldable pub is_read : List ℕ → Bool
is_read bytes = is_given (sid_at bytes)
