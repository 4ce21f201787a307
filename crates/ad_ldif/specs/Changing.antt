-- What the lines of one change record say: `version: 1` perhaps, `dn`, controls, `changetype`, and what its kind
-- asks for.
use Rattle.std.specs.Prelude.{◌≡◌, ℕ, Bool, List, [], ◌∷◌, ◌++◌, codes, Option, Some, None, Result, Ok, Err}
use Rattle.std.specs.Prelude.{if◌then◌else◌}
use Rattle.ad_bytes.specs.Reading.{◌>>=◌}
use Rattle.ad_ldif.specs.declared.change.LdifControl.{LdifControl}
use Rattle.ad_ldif.specs.declared.change.LdifItem.{LdifItem}
use Rattle.ad_ldif.specs.declared.change_lines.ChangeType.{ChangeType}
use Rattle.ad_ldif.specs.declared.change_lines.ChangeType.TheVariants as type
use Rattle.ad_ldif.specs.declared.change_lines.Opening.{Opening}
use Rattle.ad_ldif.specs.declared.change_lines.Opening.TheVariants as opening
use Rattle.ad_ldif.specs.declared.fault.LdifFault.{LdifFault}
use Rattle.ad_ldif.specs.declared.fault.LdifKind.TheVariants as kind
use Rattle.ad_ldif.specs.Lines.{Line, Block}
use Rattle.ad_ldif.specs.Records.{Field, Fault, fault, from_dn, dn_at, field_at, fields_behind}
use Rattle.ad_ldif.specs.Change.{Op, Adds, Deletes, Renames, Modifies, Change}
use Rattle.ad_ldif.specs.ChangeLines.{opening_at, value_in, flag_in, item_at, ends_item}
use Rattle.ad_ldif.specs.Story.{Fails}

-- ---- up to the kind of change

-- the controls, the kind of change, the line that says it, and those after it
pub record Opened : Type 0 where
  pub controls : List LdifControl
  pub type : ChangeType
  pub line : ℕ
  pub others : List Line

-- The same, with the controls of the lines before these, of which the last is the line of this number. A record
-- that ends here has no kind.
unfoldable pub opened_behind : List LdifControl → ℕ → List Line → Result Opened Fault
opened_behind controls n [] = Err (fault n kind.ChangeType)
opened_behind controls n (line ∷ lines) = opening_at line >>= λ found. elim found [
  | opening.Control c ↦ opened_behind (controls ++ c ∷ []) line.number lines
  | opening.Type t ↦ Ok (record { controls = controls; type = t; line = line.number; others = lines })
]

-- ---- bodies: n is the number of the line before the lines

-- nothing more
unfoldable pub ended : List Line → Result (Unit {0}) Fault
ended [] = Ok tt
ended (line ∷ lines) = Err (fault line.number kind.Line)

-- an attribute's line at least
unfoldable pub first_field : Line → Result (List Field) Fault
first_field line = field_at line >>= λ field. Ok (field ∷ [])

unfoldable pub added : ℕ → List Line → Result (List Field) Fault
added n [] = Err (fault n kind.Line)
added n (line ∷ lines) = do
  front ← first_field line
  fields_behind front lines

-- a line's value, and what stands after the line
pub record Led (A : Type 0) : Type 0 where
  pub value : A
  pub line : ℕ
  pub others : List Line

-- the value of the next line, which is read so
unfoldable pub next_of : {A : Type 0} → (Line → Result A Fault) → ℕ → List Line → Result (Led A) Fault
next_of read n [] = Err (fault n kind.Line)
next_of read n (line ∷ lines) = read line >>= λ value. Ok (record { value = value; line = line.number; others = lines })

-- the new parent, if a line names it, and nothing more
unfoldable pub superior_of : List Line → Result (Option (List ℕ)) Fault
superior_of [] = Ok None
superior_of (line ∷ lines) = do
  superior ← value_in (codes "newsuperior") line
  _ ← ended lines
  Ok (Some superior)

unfoldable pub renamed : ℕ → List Line → Result Op Fault
renamed n lines = do
  rdn ← next_of (value_in (codes "newrdn")) n lines
  old ← next_of (flag_in (codes "deleteoldrdn")) rdn.line rdn.others
  superior ← superior_of old.others
  Ok (Renames rdn.value old.value superior)

-- an item that isn't ended yet, and the number of its last line so far
pub record Begun : Type 0 where
  pub item : LdifItem
  pub line : ℕ

abbrev pub with_value : LdifItem → List ℕ → LdifItem
with_value item value = record { op = item.op; name = item.name; values = item.values ++ value ∷ [] }

-- an item, and those after it
abbrev pub item_and : LdifItem → Result (List LdifItem) Fault → Result (List LdifItem) Fault
item_and item others = others >>= λ items. Ok (item ∷ items)

-- The items that are ended in these lines, of which the first lines may belong to one that was begun before them.
unfoldable pub items_from : Option Begun → List Line → Result (List LdifItem) Fault
items_from None [] = Ok []
items_from (Some begun) [] = Err (fault begun.line kind.Line)
items_from None (line ∷ lines) = item_at line >>= λ item.
    items_from (Some (record { item = item; line = line.number })) lines
items_from (Some begun) (line ∷ lines) =
    if ends_item line then item_and begun.item (items_from None lines) else
    (value_in begun.item.name line >>= λ value.
    items_from (Some (record { item = with_value begun.item value; line = line.number })) lines)

-- the same, after those that were read before
unfoldable pub items_behind : List LdifItem → List Line → Result (List LdifItem) Fault
items_behind front lines = items_from None lines >>= λ items. Ok (front ++ items)

-- what a change of this kind does
unfoldable pub op_from : ChangeType → ℕ → List Line → Result Op Fault
op_from type.Add n lines = added n lines >>= λ fields. Ok (Adds fields)
op_from type.Delete n lines = ended lines >>= λ _. Ok Deletes
op_from type.Rename n lines = renamed n lines
op_from type.Modify n lines = items_behind [] lines >>= λ items. Ok (Modifies items)

-- ---- the record

unfoldable pub change_of : Block → Result Change Fault
change_of block = do
  head ← from_dn block.first block.others
  dn ← dn_at head.first
  opened ← opened_behind [] head.first.number head.others
  op ← op_from opened.type opened.line opened.others
  Ok (record { line = head.first.number; dn = dn; controls = opened.controls; op = op })

-- what a function answered that goes on with what is still to be read: the same reading, or its fault
abbrev pub GoesOn : {X Y : Type 0} → Result X LdifFault → Result Y Fault → Result Y Fault → Type 0
GoesOn (Ok x) before after = before ≡ after
GoesOn (Err e) before after = Fails e before
