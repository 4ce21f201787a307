-- Bytes that begin with an entry as it is written.
use Rattle.std.specs.Prelude.{◌≡◌, ℕ, List, ◌++◌, length, drop}
use Rattle.ad_acl.specs.Entry.{Entry}
use Rattle.ad_acl.specs.Writing.{IsEntry, entry_bytes}

-- the first bytes, so many, are those in which some entry is written
pub record BeginsWritten (size : ℕ) (bytes : List ℕ) : Type 0 where
  pub entry : Entry
  pub is : IsEntry entry
  pub size_is : size ≡ length (entry_bytes entry)
  pub parts : bytes ≡ entry_bytes entry ++ drop size bytes
