-- What one line of a change record says.
use Rattle.std.specs.Prelude.{ℕ, Bool, true, false, ◌&&◌, ◌||◌, ◌==◌, not, nat_le, List, [], ◌∷◌, take, drop, codes}
use Rattle.std.specs.Prelude.{Option, Some, None, Result, Ok, Err, if◌then◌else◌}
use Rattle.std.specs.List.{position_or_len}
use Rattle.std.specs.Str.{bytes_eq, str_eq_ignore_ascii_case}
use Rattle.ad_bytes.specs.Reading.{◌>>=◌, need}
use Rattle.ad_ldif.specs.declared.change.LdifControl.{LdifControl}
use Rattle.ad_ldif.specs.declared.change.LdifItem.{LdifItem}
use Rattle.ad_ldif.specs.declared.change_lines.ChangeType.{ChangeType}
use Rattle.ad_ldif.specs.declared.change_lines.ChangeType.TheVariants as type
use Rattle.ad_ldif.specs.declared.change_lines.Opening.{Opening}
use Rattle.ad_ldif.specs.declared.change_lines.Opening.TheVariants as opening
use Rattle.ad_ldif.specs.declared.fault.LdifKind.TheVariants as kind
use Rattle.ad_ldif.specs.Lines.{Line, is_empty}
use Rattle.ad_ldif.specs.Fields.{is_name, behind_colon}
use Rattle.ad_ldif.specs.Records.{Fault, fault, name_at, value_at, is_short, short_value_at}

-- this fault where there is none
abbrev pub ok_or : {A : Type 0} → Fault → Option A → Result A Fault
ok_or f None = Err f
ok_or f (Some x) = Ok x

-- ---- controls

-- a digit, or a dot (46)
abbrev pub is_oid_byte : ℕ → Bool
is_oid_byte b = nat_le 48 b && nat_le b 57 || b == 46

-- so many bytes at the start are digits and dots
abbrev pub oid_len : List ℕ → ℕ
oid_len value = position_or_len (λ b. not (is_oid_byte b)) value

-- whether a control is critical, by what stands after its identifier
unfoldable pub critical_of : List ℕ → Option Bool
critical_of behind =
    if is_empty behind then Some false else
    (if bytes_eq behind (codes " false") then Some false else
    (if bytes_eq behind (codes " true") then Some true else None))

-- a control with this identifier, where it is one
abbrev pub control_by : List ℕ → Option Bool → Option LdifControl
control_by oid None = None
control_by oid (Some critical) = Some (record { oid = oid; critical = critical })

-- the control that a value encodes: digits and dots, and ` true`, ` false` or nothing after them
unfoldable pub control_of : List ℕ → Option LdifControl
control_of value = if oid_len value == 0 then None else control_by (take (oid_len value) value)
    (critical_of (drop (oid_len value) value))

unfoldable pub control_at : ℕ → List ℕ → Result LdifControl Fault
control_at n behind = do
  value ← value_at n behind
  control ← ok_or (fault n kind.Line) (control_of value)
  _ ← need (is_short value) (fault n kind.TooLong)
  Ok control

-- ---- the kind of change

unfoldable pub type_of : List ℕ → Option ChangeType
type_of value =
    if bytes_eq value (codes "add") then Some type.Add else
    (if bytes_eq value (codes "delete") then Some type.Delete else
    (if bytes_eq value (codes "modify") then Some type.Modify else
    (if bytes_eq value (codes "modrdn") then Some type.Rename else
    (if bytes_eq value (codes "moddn") then Some type.Rename else None))))

unfoldable pub type_at : ℕ → List ℕ → Result ChangeType Fault
type_at n behind = do
  value ← value_at n behind
  ok_or (fault n kind.ChangeType) (type_of value)

-- a line after `dn`: a control, or the kind of change
unfoldable pub opening_at : Line → Result Opening Fault
opening_at line = do
  name ← name_at line
  if str_eq_ignore_ascii_case name (codes "control")
      then (control_at line.number (behind_colon line.text) >>= λ c. Ok (opening.Control c)) else
      (if str_eq_ignore_ascii_case name (codes "changetype")
      then (type_at line.number (behind_colon line.text) >>= λ t. Ok (opening.Type t)) else
      Err (fault line.number kind.ChangeType))

-- ---- lines of one name

-- what stands after the colon of a line that has this name, in whatever case
unfoldable pub behind_name : List ℕ → Line → Result (List ℕ) Fault
behind_name name line = do
  found ← name_at line
  _ ← need (str_eq_ignore_ascii_case found name) (fault line.number kind.Line)
  Ok (behind_colon line.text)

-- its value
unfoldable pub value_in : List ℕ → Line → Result (List ℕ) Fault
value_in name line = do
  behind ← behind_name name line
  short_value_at line.number behind

-- 0 (48) or 1 (49)
unfoldable pub flag_of : List ℕ → Option Bool
flag_of value = if bytes_eq value (codes "0") then Some false
    else (if bytes_eq value (codes "1") then Some true else None)

-- the flag in a line of this name
unfoldable pub flag_in : List ℕ → Line → Result Bool Fault
flag_in name line = do
  behind ← behind_name name line
  value ← value_at line.number behind
  ok_or (fault line.number kind.Line) (flag_of value)

-- ---- items

unfoldable pub op_of : List ℕ → Option ℕ
op_of name =
    if str_eq_ignore_ascii_case name (codes "add") then Some 0 else
    (if str_eq_ignore_ascii_case name (codes "delete") then Some 1 else
    (if str_eq_ignore_ascii_case name (codes "replace") then Some 2 else None))

-- an attribute's name as a value
unfoldable pub attribute_at : ℕ → List ℕ → Result (List ℕ) Fault
attribute_at n behind = do
  value ← value_at n behind
  _ ← need (is_name value) (fault n kind.Line)
  _ ← need (is_short value) (fault n kind.TooLong)
  Ok value

-- the line that begins an item, which has no values yet
unfoldable pub item_at : Line → Result LdifItem Fault
item_at line = do
  name ← name_at line
  op ← ok_or (fault line.number kind.Line) (op_of name)
  attribute ← attribute_at line.number (behind_colon line.text)
  Ok (record { op = op; name = attribute; values = [] })

-- a line that ends an item: `-` alone
abbrev pub ends_item : Line → Bool
ends_item line = bytes_eq line.text (codes "-")
