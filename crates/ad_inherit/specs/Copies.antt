-- What a child inherits of one entry of its parent ([MS-DTYP] 2.5.3.4).
use Rattle.std.specs.Prelude.{ℕ, ◌+◌, Bool, true, false, ◌||◌, if◌then◌else◌, bit_and, bit_or, Option, None, Some}
use Rattle.std.specs.Prelude.{List, [], ◌∷◌}
use Rattle.std.specs.Str.{bytes_eq}
use Rattle.ad_ids.specs.declared.guid.Guid.{Guid}
use Rattle.ad_ids.specs.SidValue.{SidValue, same_sid}
use Rattle.ad_acl.specs.Entry.{Entry}
use Rattle.ad_inherit.specs.Flags.{container_inherit, no_propagate, inherit_only, inherited, audit_bits, has}

-- the entry passes down
abbrev pub passes : Entry → Bool
passes entry = has entry container_inherit

-- it is for objects of every class, or for those of this one
abbrev pub is_for : Option Guid → Guid → Bool
is_for None class = true
is_for (Some only) class = bytes_eq only.bytes class.bytes

abbrev pub fits : Entry → Guid → Bool
fits entry class = is_for entry.inherited class

-- S-1-3-0 represents the owner of the object that inherits, and S-1-3-1 for its group.
abbrev pub creator_owner : SidValue
creator_owner = record { authority = 3; sub_authorities = 0 ∷ [] }

abbrev pub creator_group : SidValue
creator_group = record { authority = 3; sub_authorities = 1 ∷ [] }

abbrev pub is_creator : SidValue → Bool
is_creator sid = same_sid sid creator_owner || same_sid sid creator_group

-- whom the identifier represents on an object with this owner and this group
abbrev pub stands_for : SidValue → SidValue → SidValue → SidValue
stands_for sid owner group =
    if same_sid sid creator_owner then owner
    else (if same_sid sid creator_group then group
    else sid)

-- A copy keeps kind, mask, types and audit bits. Of the other flags it has these.
abbrev pub copy_of : Entry → ℕ → SidValue → Entry
copy_of entry flags sid = record {
  kind = entry.kind;
  flags = bit_or (bit_and entry.flags audit_bits) flags;
  mask = entry.mask;
  object = entry.object;
  inherited = entry.inherited;
  sid = sid;
}

-- effective on the child, for the one that the identifier represents, and passing no further
abbrev pub effective : Entry → SidValue → SidValue → Entry
effective entry owner group = copy_of entry inherited (stands_for entry.sid owner group)

-- passing further down, with its identifier, and without effect on the child
abbrev pub down : Entry → Entry
down entry = copy_of entry (container_inherit + inherit_only + inherited) entry.sid

-- effective on the child and passing further down
abbrev pub both : Entry → Entry
both entry = copy_of entry (container_inherit + inherited) entry.sid

-- whether the entry fits, doesn't propagate, and is for a creator; and the copies of these three kinds
abbrev pub copies_by : Bool → Bool → Bool → Entry → Entry → Entry → List Entry
copies_by true true creator effective down both = effective ∷ []
copies_by true false true effective down both = effective ∷ down ∷ []
copies_by true false false effective down both = both ∷ []
copies_by false false creator effective down both = down ∷ []
copies_by false true creator effective down both = []

-- The copies of an entry that passes down, on a child of this class with this owner and this group.
unfoldable pub copies : Entry → Guid → SidValue → SidValue → List Entry
copies entry class owner group =
    copies_by (fits entry class) (has entry no_propagate) (is_creator entry.sid)
    (effective entry owner group) (down entry) (both entry)
