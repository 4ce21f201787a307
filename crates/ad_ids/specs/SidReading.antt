-- How a security identifier is read, with the fault that stands first.
use Rattle.std.specs.Prelude.{ℕ, List, ◌==◌, ◌&&◌, nat_lt, Ok}
use Rattle.ad_bytes.specs.Reading.{Reading, ◌>>=◌, need, or_fault, many_at}
use Rattle.ad_bytes.specs.Numbers.{byte_at, be_at, le_at}
use Rattle.ad_ids.specs.declared.sid.SidFault.{SidFault}
use Rattle.ad_ids.specs.declared.sid.SidFault.TheVariants.{Short, Revision, Count}
use Rattle.ad_ids.specs.SidValue.{SidValue}

-- the number of sub-authorities that the header announces
unfoldable pub header_at : List ℕ → Reading ℕ SidFault
header_at bytes = do
  revision ← or_fault Short (byte_at bytes)
  _ ← need (revision.0 == 1) (Revision revision.0)
  count ← or_fault Short (byte_at revision.1)
  _ ← need (nat_lt 0 count.0 && nat_lt count.0 16) (Count count.0)
  Ok count

unfoldable pub sid_at : List ℕ → Reading SidValue SidFault
sid_at bytes = do
  count ← header_at bytes
  authority ← or_fault Short (be_at 6 count.1)
  others ← or_fault Short (many_at (le_at 4) count.0 authority.1)
  Ok (record { authority = authority.0; sub_authorities = others.0 }, others.1)
