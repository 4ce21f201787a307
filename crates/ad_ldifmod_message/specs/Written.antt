-- The one encoding of a change's message that is written: lengths and numbers have no byte more than they need (RFC
-- 4511 4.1.1, 4.6 to 4.9).
use Rattle.std.specs.Prelude.{ℕ, Bool, not, List, [], ◌∷◌, ◌++◌, Option, None, Some, if◌then◌else◌}
use Rattle.std.specs.List.{flat_map}
use Rattle.ad_ber.specs.Writing.{element_bytes, number_element}
use Rattle.ad_ldap.specs.declared.controls.Control.{Control}
use Rattle.ad_ldap.specs.declared.items.Item.{Item}
use Rattle.ad_ldap.specs.declared.requests.Rename.{Rename}
use Rattle.ad_ldap.specs.Tags.{boolean, integer, octet_string, enumerated, sequence, tag_of_controls, new_superior}
use Rattle.ad_ldap.specs.Tags.{modify_request, add_request, delete_request, rename_request}
use Rattle.ad_ldap.specs.Reply.{attr_bytes, entry_body}
use Rattle.ad_ldap.specs.MessageValue.{OpValue, ModifyOf, AddOf, DeleteOf, RenameOf, MessageValue}
use Rattle.ad_ldap.specs.Ranges.{HasRanges}

-- the one byte of a truth value (RFC 4511 5.1)
abbrev pub true_byte : ℕ
true_byte = 255

abbrev pub false_byte : ℕ
false_byte = 0

abbrev pub truth_bytes : Bool → List ℕ
truth_bytes truth = element_bytes boolean ((if truth then true_byte else false_byte) ∷ [])

-- an octet string with this tag, or none
abbrev pub option_bytes : ℕ → Option (List ℕ) → List ℕ
option_bytes tag None = []
option_bytes tag (Some octets) = element_bytes tag octets

-- ---- requests

-- an item: how, and an attribute with values
unfoldable pub item_bytes : Item → List ℕ
item_bytes i = element_bytes sequence (number_element enumerated i.op ++ attr_bytes (i.attr, i.values))

abbrev pub modify_body : List ℕ → List Item → List ℕ
modify_body dn items = element_bytes octet_string dn ++ element_bytes sequence (flat_map item_bytes items)

abbrev pub rename_body : Rename → List ℕ
rename_body r = element_bytes octet_string r.dn ++ (element_bytes octet_string r.rdn
    ++ (truth_bytes (not r.keep) ++ option_bytes new_superior r.superior))

-- A new object is spelled as an entry is. Other requests aren't written.
unfoldable pub op_bytes : OpValue → List ℕ
op_bytes (ModifyOf m) = element_bytes modify_request (modify_body m.dn m.items)
op_bytes (AddOf a) = element_bytes add_request (entry_body a.dn a.attrs)
op_bytes (DeleteOf dn) = element_bytes delete_request dn
op_bytes (RenameOf r) = element_bytes rename_request (rename_body r)
op_bytes _ = []

-- it is one of those that change something
abbrev pub IsChange : OpValue → Type 0
IsChange (ModifyOf m) = Unit {0}
IsChange (AddOf a) = Unit {0}
IsChange (DeleteOf dn) = Unit {0}
IsChange (RenameOf r) = Unit {0}
IsChange _ = ⊥

-- ---- messages

-- A control: its identifier, whether it is critical, which is left out where it isn't, and its value, if it has one.
unfoldable pub control_bytes : Control → List ℕ
control_bytes c = element_bytes sequence (element_bytes octet_string c.oid
    ++ ((if c.critical then truth_bytes c.critical else []) ++ option_bytes octet_string c.value))

-- the controls, which are left out where there is none
unfoldable pub controls_bytes : List Control → List ℕ
controls_bytes [] = []
controls_bytes (c ∷ cs) = element_bytes tag_of_controls (flat_map control_bytes (c ∷ cs))

unfoldable pub message_bytes : MessageValue → List ℕ
message_bytes m = element_bytes sequence (number_element integer m.id ++ (op_bytes m.op ++ controls_bytes m.controls))

-- a change's message, whose number, items and values are such as a message has
pub record IsWritable (m : MessageValue) : Type 0 where
  pub ranges : HasRanges m
  pub change : IsChange m.op
