-- The message that a change record represents: the same names and values in order.
use Rattle.std.specs.Prelude.{ℕ, not, List, [], ◌∷◌, ◌++◌, map, None, if◌then◌else◌}
use Rattle.ad_schema_classes.specs.Names.{same_name}
use Rattle.ad_ldif.specs.declared.change.LdifControl.{LdifControl}
use Rattle.ad_ldif.specs.declared.change.LdifItem.{LdifItem}
use Rattle.ad_ldif.specs.Records.{Field}
use Rattle.ad_ldif.specs.Change.{Op, Adds, Deletes, Renames, Modifies, Change}
use Rattle.ad_ldap.specs.declared.controls.Control.{Control}
use Rattle.ad_ldap.specs.declared.items.Item.{Item}
use Rattle.ad_ldap.specs.MessageValue.{OpValue, ModifyOf, AddOf, DeleteOf, RenameOf, MessageValue}

-- the number of a message is less (RFC 4511 4.1.1: maxInt)
abbrev pub ids_end : ℕ
ids_end = 2147483648

-- an attribute of a new object: its name, and its values
abbrev pub Attribute : Type 0
Attribute = List ℕ × List (List ℕ)

-- A line more: its value is put after those of its name, in whatever case, or it is the first of a new one.
unfoldable pub and_line : List Attribute → Field → List Attribute
and_line [] f = (f.name, f.value ∷ []) ∷ []
and_line (a ∷ attrs) f = if same_name a.0 f.name then (a.0, a.1 ++ f.value ∷ []) ∷ attrs else a ∷ and_line attrs f

-- the attributes of these lines, after those before them
unfoldable pub grouped_behind : List Attribute → List Field → List Attribute
grouped_behind front [] = front
grouped_behind front (f ∷ fs) = grouped_behind (and_line front f) fs

-- The lines' values by their names, in the order in which the names come first. A name is spelled as it comes first.
abbrev pub grouped : List Field → List Attribute
grouped fs = grouped_behind [] fs

abbrev pub item_asked : LdifItem → Item
item_asked i = record { op = i.op; attr = i.name; values = i.values }

abbrev pub control_asked : LdifControl → Control
control_asked c = record { oid = c.oid; critical = c.critical; value = None }

-- the operation on the object of this name
abbrev pub op_asked : List ℕ → Op → OpValue
op_asked dn (Adds fields) = AddOf (record { dn = dn; attrs = grouped fields })
op_asked dn Deletes = DeleteOf dn
op_asked dn (Renames rdn delete_old superior)
    = RenameOf (record { dn = dn; rdn = rdn; keep = not delete_old; superior = superior })
op_asked dn (Modifies items) = ModifyOf (record { dn = dn; items = map item_asked items })

-- the message with this number
unfoldable pub message_asked : Change → ℕ → MessageValue
message_asked c id = record { id = id; op = op_asked c.dn c.op; controls = map control_asked c.controls }
