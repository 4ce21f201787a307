-- The flags of an entry that inheritance looks at and sets ([MS-DTYP] 2.4.4.1).
use Rattle.std.specs.Prelude.{ℕ, Bool}
use Rattle.ad_acl.specs.Entry.{Entry, says}

-- children inherit the entry
abbrev pub container_inherit : ℕ
container_inherit = 0x02

-- children of the child don't
abbrev pub no_propagate : ℕ
no_propagate = 0x04

-- the entry says nothing of the object itself
abbrev pub inherit_only : ℕ
inherit_only = 0x08

-- the entry came from the parent
abbrev pub inherited : ℕ
inherited = 0x10

-- which accesses an audit entry asks events for
abbrev pub audit_bits : ℕ
audit_bits = 0xc0

-- the entry has the flag
abbrev pub has : Entry → ℕ → Bool
has entry flag = says entry.flags flag
