-- How normal bytes are read: exactly as they are written.
use Rattle.std.specs.Prelude.{ℕ, Bool, nat_lt, List, length, take, Ok}
use Rattle.std.specs.Str.{bytes_eq}
use Rattle.ad_bytes.specs.Reading.{Reading, ◌>>=◌, need, or_fault, many_at}
use Rattle.ad_bytes.specs.Numbers.{byte_at, be_at}
use Rattle.ad_ids.specs.SidReading.{sid_at}
use Rattle.ad_acl.specs.Entry.{Entry, says}
use Rattle.ad_acl.specs.Reading.{entry_at}
use Rattle.ad_acl.specs.Writing.{entry_bytes}
use Rattle.ad_sd.specs.declared.exact.NotNormal.{NotNormal}
use Rattle.ad_sd.specs.declared.parts.Sd.{Sd}

abbrev pub not_normal : NotNormal
not_normal = record {}

-- the bytes begin with the entry as it is written
abbrev pub stands : Entry → List ℕ → Bool
stands e bytes = bytes_eq (entry_bytes e) (take (length (entry_bytes e)) bytes)

-- an entry that is spelled as it is written
unfoldable pub entry_exactly_at : List ℕ → Reading Entry NotNormal
entry_exactly_at bytes = do
  entry ← or_fault not_normal (entry_at bytes)
  _ ← need (stands entry.0 bytes) not_normal
  Ok entry

unfoldable pub entries_exactly_at : List ℕ → Reading (List Entry) NotNormal
entries_exactly_at bytes = do
  count ← or_fault not_normal (be_at 8 bytes)
  many_at entry_exactly_at count.0 count.1

-- marks below 4, the parts, and nothing after them
unfoldable pub normal_at : List ℕ → Reading Sd NotNormal
normal_at bytes = do
  marks ← or_fault not_normal (byte_at bytes)
  _ ← need (nat_lt marks.0 4) not_normal
  owner ← or_fault not_normal (sid_at marks.1)
  group ← or_fault not_normal (sid_at owner.1)
  dacl ← entries_exactly_at group.1
  sacl ← entries_exactly_at dacl.1
  Ok (
    record {
      owner = owner.0;
      group = group.0;
      dacl = record { protected = says marks.0 1; entries = dacl.0 };
      sacl = record { protected = says marks.0 2; entries = sacl.0 };
    },
    sacl.1,
  )
