-- The entry that some bytes begin with.
use Rattle.std.specs.Prelude.{ℕ, ◌==◌, length, Bool, true, false, List, [], None, Ok, Err}
use Rattle.ad_bytes.specs.Reading.{Reading}
use Rattle.ad_acl.specs.declared.fault.AclFault.{AclFault}
use Rattle.ad_acl.specs.declared.kind.AceKind.TheVariants.{Allow}
use Rattle.ad_acl.specs.Entry.{Entry}
use Rattle.ad_acl.specs.Reading.{entry_at}

-- what was read, or a blank
abbrev pub given : Reading Entry AclFault → Entry
given (Ok x) = x.0
given (Err e) = record {
  kind = Allow;
  flags = 0;
  mask = 0;
  object = None;
  inherited = None;
  sid
      = record { authority = 0; sub_authorities = [] };
}

abbrev pub is_given : Reading Entry AclFault → Bool
is_given (Ok x) = true
is_given (Err e) = false

abbrev pub is_alone : Reading Entry AclFault → Bool
is_alone (Ok x) = length x.1 == 0
is_alone (Err e) = false

unfoldable pub entry_in : List ℕ → Entry
entry_in bytes = given (entry_at bytes)

-- they begin with one
unfoldable pub begins_entry : List ℕ → Bool
begins_entry bytes = is_given (entry_at bytes)

-- they are one, and no more
unfoldable pub is_entry : List ℕ → Bool
is_entry bytes = is_alone (entry_at bytes)
