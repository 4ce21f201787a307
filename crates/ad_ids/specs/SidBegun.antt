-- The identifier that some bytes begin with, beside one that is given.
use Rattle.std.specs.Prelude.{ℕ, Bool, false, List, Ok, Err}
use Rattle.std.specs.List.{list_any}
use Rattle.ad_bytes.specs.Reading.{Reading}
use Rattle.ad_ids.specs.declared.sid.SidFault.{SidFault}
use Rattle.ad_ids.specs.SidValue.{SidValue, same_sid}
use Rattle.ad_ids.specs.SidReading.{sid_at}

-- the identifier is the one that was read
abbrev pub is_read : Reading SidValue SidFault → SidValue → Bool
is_read (Ok read) sid = same_sid sid read.0
is_read (Err fault) sid = false

-- the bytes begin with an encoding of the identifier
unfoldable pub begins_with : List ℕ → SidValue → Bool
begins_with bytes sid = is_read (sid_at bytes) sid

-- the bytes begin with an encoding of one of these identifiers
abbrev pub begins_with_one : List ℕ → List SidValue → Bool
begins_with_one bytes sids = list_any (λ sid. begins_with bytes sid) sids
