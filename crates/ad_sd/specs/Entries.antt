-- Entries that stand one after the other in bytes.
use Rattle.std.specs.Prelude.{ℕ, Bool, true, false, List, [], Ok, Err}
use Rattle.ad_bytes.specs.Reading.{Reading, many_at}
use Rattle.ad_acl.specs.declared.fault.AclFault.{AclFault}
use Rattle.ad_acl.specs.Entry.{Entry}
use Rattle.ad_acl.specs.Reading.{entry_at}

-- what was read, or none
abbrev pub given : Reading (List Entry) AclFault → List Entry
given (Ok x) = x.0
given (Err e) = []

abbrev pub is_given : Reading (List Entry) AclFault → Bool
is_given (Ok x) = true
is_given (Err e) = false

-- n entries that the bytes begin with
unfoldable pub entries_of : ℕ → List ℕ → List Entry
entries_of n bytes = given (many_at entry_at n bytes)

-- the bytes begin with n entries
unfoldable pub are_read : ℕ → List ℕ → Bool
are_read n bytes = is_given (many_at entry_at n bytes)
