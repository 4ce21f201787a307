-- The numbers and lists of a message are in their ranges.
use Rattle.std.proofs.Common.{◌≡◌, ℕ, ◌≤◌, List, [], ◌∷◌}
use Rattle.std.specs.List.{AllByRecursion}
use Rattle.ad_bytes.specs.Reading.{SpellsEach}
use Rattle.ad_ldap.specs.declared.items.Item.{Item}
use Rattle.ad_ldap.specs.MessageValue.{OpValue, Bind, Unbind, SearchOf, ModifyOf, AddOf, DeleteOf, RenameOf}
use Rattle.ad_ldap.specs.MessageValue.{CompareOf, Abandon, Extended, MessageValue}
use Rattle.ad_ldap.specs.Requests.{SpellsItem, SpellsNew, SpellsOp}
use Rattle.ad_ldap.specs.Messages.{SpellsMessage}
use Rattle.ad_ldap.specs.Ranges.{HasOpRanges, HasRanges}

items_in : (items : List Item) (text : List ℕ) → SpellsEach SpellsItem items text
    → AllByRecursion (λ (item : Item). item.op ≤ 2) items
items_in [] text s = tt
items_in (item ∷ items) text s = (s.spelled.inside.spelled.0, items_in items s.behind s.follows)

attrs_in : (attrs : List (List ℕ × List (List ℕ))) (text : List ℕ) → SpellsEach SpellsNew attrs text
    → AllByRecursion (λ (attr : List ℕ × List (List ℕ)). attr.1 ≡ [] → ⊥) attrs
attrs_in [] text s = tt
attrs_in (attr ∷ attrs) text s = (s.spelled.0, attrs_in attrs s.behind s.follows)

op_in : (op : OpValue) (text : List ℕ) → SpellsOp op text → HasOpRanges op
op_in (SearchOf x) text s =
    let w2 = s.inside.text_is.follows in
    let w4 = w2.follows.follows in
    let w7 = w4.follows.follows.follows in
    (w2.spelled.0, w4.spelled.0, w7.spelled.0)
op_in (ModifyOf m) text s = let t = s.inside.follows.first in items_in m.items t.body t.inside
op_in (AddOf a) text s = let t = s.inside.follows.first in attrs_in a.attrs t.body t.inside
op_in Bind text s = tt
op_in Unbind text s = tt
op_in (DeleteOf dn) text s = tt
op_in (RenameOf r) text s = tt
op_in (CompareOf c) text s = tt
op_in Abandon text s = tt
op_in Extended text s = tt

pub message_in : (m : MessageValue) (text : List ℕ) → SpellsMessage m text → HasRanges m
message_in m text s =
    let w1 = s.inside.text_is in
    (s.inside.some, w1.spelled.0, op_in m.op w1.follows.front w1.follows.spelled)
