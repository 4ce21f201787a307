-- What stands in a message of bytes is bytes: the values of a Modify and of an Add.
use Rattle.std.proofs.Common.{◌≡◌, ℕ, List, [], ◌∷◌, Ok, subst}
use Rattle.std.specs.List.{AllByRecursion}
use Rattle.ad_bytes.specs.Reading.{IsBytes, SpellsEach}
use Rattle.ad_ber.specs.declared.finding.Tagged.{Tagged as Element}
use Rattle.ad_ber.specs.Element.{SpellsElement}
use Rattle.ad_ldap.specs.declared.items.Item.{Item}
use Rattle.ad_ldap.specs.Elements.{Tagged, SpellsOctets}
use Rattle.ad_ldap.specs.MessageValue.{OpValue, Bind, Unbind, SearchOf, ModifyOf, AddOf, DeleteOf, RenameOf}
use Rattle.ad_ldap.specs.MessageValue.{CompareOf, Abandon, Extended, MessageValue}
use Rattle.ad_ldap.specs.MessageReading.{message_of}
use Rattle.ad_ldap.specs.Requests.{SpellsItem, SpellsNew, SpellsOp}
use Rattle.ad_ldap.specs.Messages.{SpellsMessage}
use Rattle.ad_ldap.proofs.MessageCodec.{message_takes}
use Rattle.ad_engine_laws.proofs.Spellings.{front_of, behind_of}

-- the body of an element
body_of : (e : Element) (text : List ℕ) → SpellsElement e text → IsBytes text → IsBytes e.body
body_of e text s fits =
    let t = s.text_is in
    let u = t.follows in
    subst IsBytes u.follows.1 (behind_of t.behind u.front u.behind u.parts
    (behind_of text t.front t.behind t.parts fits))

inside_of : (tag : ℕ) (Body : List ℕ → Type 0) (text : List ℕ) (t : Tagged tag Body text) → IsBytes text
    → IsBytes t.body
inside_of tag Body text t fits = body_of (record { tag = tag; body = t.body }) text t.element fits

-- ---- values

values_of : (values : List (List ℕ)) (text : List ℕ) → SpellsEach (SpellsOctets 4) values text → IsBytes text
    → AllByRecursion IsBytes values
values_of [] text s fits = tt
values_of (value ∷ values) text s fits = (
  subst IsBytes s.spelled.inside (inside_of 4 (λ (body : List ℕ). body ≡ value) s.front s.spelled
      (front_of text s.front s.behind s.parts fits)),
  values_of values s.behind s.follows (behind_of text s.front s.behind s.parts fits),
)

item_of : (item : Item) (text : List ℕ) → SpellsItem item text → IsBytes text → AllByRecursion IsBytes item.values
item_of item text s fits =
    let one : IsBytes s.body = inside_of 48 _ text s fits in
    let two : IsBytes s.inside.behind = behind_of s.body s.inside.front s.inside.behind s.inside.parts one in
    let rest = s.inside.follows in
    let three : IsBytes rest.front = front_of s.inside.behind rest.front rest.behind rest.parts two in
    let attr = rest.first in
    let four : IsBytes attr.body = inside_of 48 _ rest.front attr three in
    let five : IsBytes attr.inside.behind = behind_of attr.body attr.inside.front attr.inside.behind attr.inside.parts
    four in
    let last = attr.inside.follows in
    let six : IsBytes last.front = front_of attr.inside.behind last.front last.behind last.parts five in
    values_of item.values last.first.body last.first.inside (inside_of 49 _ last.front last.first six)

items_of : (items : List Item) (text : List ℕ) → SpellsEach SpellsItem items text → IsBytes text
    → AllByRecursion (λ (item : Item). AllByRecursion IsBytes item.values) items
items_of [] text s fits = tt
items_of (item ∷ items) text s fits = (
  item_of item s.front s.spelled (front_of text s.front s.behind s.parts fits),
  items_of items s.behind s.follows (behind_of text s.front s.behind s.parts fits),
)

new_of : (attr : List ℕ × List (List ℕ)) (text : List ℕ) → SpellsNew attr text → IsBytes text
    → AllByRecursion IsBytes attr.1
new_of attr text s fits =
    let four : IsBytes s.1.body = inside_of 48 _ text s.1 fits in
    let inside = s.1.inside in
    let five : IsBytes inside.behind = behind_of s.1.body inside.front inside.behind inside.parts four in
    let last = inside.follows in
    let six : IsBytes last.front = front_of inside.behind last.front last.behind last.parts five in
    values_of attr.1 last.first.body last.first.inside (inside_of 49 _ last.front last.first six)

attrs_of : (attrs : List (List ℕ × List (List ℕ))) (text : List ℕ) → SpellsEach SpellsNew attrs text → IsBytes text
    → AllByRecursion (λ (attr : List ℕ × List (List ℕ)). AllByRecursion IsBytes attr.1) attrs
attrs_of [] text s fits = tt
attrs_of (attr ∷ attrs) text s fits = (
  new_of attr s.front s.spelled (front_of text s.front s.behind s.parts fits),
  attrs_of attrs s.behind s.follows (behind_of text s.front s.behind s.parts fits),
)

-- ---- requests

abbrev pub HasByteValues : OpValue → Type 0
HasByteValues (ModifyOf m) = AllByRecursion (λ (item : Item). AllByRecursion IsBytes item.values) m.items
HasByteValues (AddOf a) = AllByRecursion (λ (attr : List ℕ × List (List ℕ)). AllByRecursion IsBytes attr.1) a.attrs
HasByteValues _ = Unit {0}

op_values : (op : OpValue) (text : List ℕ) → SpellsOp op text → IsBytes text → HasByteValues op
op_values (ModifyOf m) text s fits =
    let one : IsBytes s.body = inside_of 102 _ text s fits in
    let two : IsBytes s.inside.behind = behind_of s.body s.inside.front s.inside.behind s.inside.parts one in
    let rest = s.inside.follows in
    let three : IsBytes rest.front = front_of s.inside.behind rest.front rest.behind rest.parts two in
    items_of m.items rest.first.body rest.first.inside (inside_of 48 _ rest.front rest.first three)
op_values (AddOf a) text s fits =
    let one : IsBytes s.body = inside_of 104 _ text s fits in
    let two : IsBytes s.inside.behind = behind_of s.body s.inside.front s.inside.behind s.inside.parts one in
    let rest = s.inside.follows in
    let three : IsBytes rest.front = front_of s.inside.behind rest.front rest.behind rest.parts two in
    attrs_of a.attrs rest.first.body rest.first.inside (inside_of 48 _ rest.front rest.first three)
op_values Bind text s fits = tt
op_values Unbind text s fits = tt
op_values (SearchOf x) text s fits = tt
op_values (DeleteOf dn) text s fits = tt
op_values (RenameOf r) text s fits = tt
op_values (CompareOf c) text s fits = tt
op_values Abandon text s fits = tt
op_values Extended text s fits = tt

spelled_values : (m : MessageValue) (text : List ℕ) → SpellsMessage m text → IsBytes text → HasByteValues m.op
spelled_values m text s fits =
    let one : IsBytes s.body = inside_of 48 _ text s fits in
    let w = s.inside.text_is in
    let two : IsBytes w.behind = behind_of s.body w.front w.behind w.parts one in
    let op = w.follows in
    op_values m.op op.front op.spelled (front_of w.behind op.front op.behind op.parts two)

pub message_values : (bytes : List ℕ) (m : MessageValue) → IsBytes bytes → message_of bytes ≡ Ok m → HasByteValues m.op
message_values bytes m fits is = spelled_values m bytes (message_takes bytes m fits is) fits
