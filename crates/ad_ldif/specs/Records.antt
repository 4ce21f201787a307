-- What the lines of one record say: `version: 1` perhaps, `dn`, `changetype: add` perhaps, and the attributes' lines.
use Rattle.std.specs.Prelude.{ℕ, Bool, true, false, nat_le, List, [], ◌∷◌, ◌++◌, length, map, codes, Result, Ok, Err}
use Rattle.std.specs.Prelude.{if◌then◌else◌}
use Rattle.std.specs.Str.{bytes_eq, str_eq_ignore_ascii_case}
use Rattle.ad_bytes.specs.Reading.{◌>>=◌, need, fault_as}
use Rattle.ad_ldif.specs.declared.fault.LdifKind.{LdifKind}
use Rattle.ad_ldif.specs.declared.fault.LdifKind.TheVariants as kind
use Rattle.ad_ldif.specs.declared.held.Held.{Held}
use Rattle.ad_ldif.specs.declared.held.Held.TheVariants.{Own, Shared}
use Rattle.ad_ldif.specs.declared.record.LdifLine.{LdifLine}
use Rattle.ad_ldif.specs.declared.record.LdifRecord.{LdifRecord}
use Rattle.ad_ldif.specs.Lines.{Line, Block}
use Rattle.ad_ldif.specs.Fields.{is_line, name_of, behind_colon, value_of}

-- ---- what is read

-- an attribute's line, and a record, without where they lie in memory
pub record Field : Type 0 where
  pub line : ℕ
  pub name : List ℕ
  pub value : List ℕ

pub record Entry : Type 0 where
  pub line : ℕ
  pub dn : List ℕ
  pub fields : List Field

-- the bytes of a value, whoever has them
abbrev pub bytes_of : Held → List ℕ
bytes_of (Own bytes) = bytes
bytes_of (Shared bytes) = bytes.value

abbrev pub field_of : LdifLine → Field
field_of l = record { line = l.line; name = l.name; value = bytes_of l.held }

abbrev pub entry_of : LdifRecord → Entry
entry_of r = record { line = r.line; dn = r.dn; fields = map field_of r.lines.items }

-- a fault, by the number of the line where it stands
pub record Fault : Type 0 where
  pub line : ℕ
  pub kind : LdifKind

abbrev pub fault : ℕ → LdifKind → Fault
fault n k = record { line = n; kind = k }

-- ---- one line

-- a line's name, where it is a line
unfoldable pub name_at : Line → Result (List ℕ) Fault
name_at line = if is_line line.text then Ok (name_of line.text) else Err (fault line.number kind.Line)

-- the value after the colon of the line of this number, of whatever length
unfoldable pub value_at : ℕ → List ℕ → Result (List ℕ) Fault
value_at n behind = fault_as (fault n) (value_of behind)

-- a value of at most 1,048,576 bytes
abbrev pub is_short : List ℕ → Bool
is_short value = nat_le (length value) 1048576

unfoldable pub short_value_at : ℕ → List ℕ → Result (List ℕ) Fault
short_value_at n behind = do
  value ← value_at n behind
  _ ← need (is_short value) (fault n kind.TooLong)
  Ok value

-- a value that has to be this one
unfoldable pub value_is : List ℕ → LdifKind → ℕ → List ℕ → Result Bool Fault
value_is value other n behind = do
  given ← value_at n behind
  _ ← need (bytes_eq given value) (fault n other)
  Ok true

-- Whether a line has this name, in whatever case; then its value is this one.
unfoldable pub is_fixed : List ℕ → List ℕ → LdifKind → Line → Result Bool Fault
is_fixed name value other line = do
  found ← name_at line
  if str_eq_ignore_ascii_case found name then value_is value other line.number (behind_colon line.text) else Ok false

-- whether it is `version: 1`, and whether `changetype: add`
abbrev pub is_version : Line → Result Bool Fault
is_version line = is_fixed (codes "version") (codes "1") kind.Version line

abbrev pub is_changetype : Line → Result Bool Fault
is_changetype line = is_fixed (codes "changetype") (codes "add") kind.ChangeType line

-- the record's name
unfoldable pub dn_at : Line → Result (List ℕ) Fault
dn_at line = do
  name ← name_at line
  _ ← need (str_eq_ignore_ascii_case name (codes "dn")) (fault line.number kind.NoDn)
  short_value_at line.number (behind_colon line.text)

-- an attribute's line
unfoldable pub field_at : Line → Result Field Fault
field_at line = do
  name ← name_at line
  value ← short_value_at line.number (behind_colon line.text)
  Ok (record { line = line.number; name = name; value = value })

-- ---- a record

-- the lines after one that may not be the last
abbrev pub behind_line : Line → List Line → Result Block Fault
behind_line line [] = Err (fault line.number kind.NoDn)
behind_line line (next ∷ lines) = Ok (record { first = next; others = lines })

-- the lines from `dn` on
unfoldable pub from_dn : Line → List Line → Result Block Fault
from_dn first others = do
  version ← is_version first
  if version then behind_line first others else Ok (record { first = first; others = others })

-- the attributes' lines, one after the other
unfoldable pub fields_of : List Line → Result (List Field) Fault
fields_of [] = Ok []
fields_of (line ∷ lines) = do
  field ← field_at line
  fields ← fields_of lines
  Ok (field ∷ fields)

-- the same, after those that were read before
unfoldable pub fields_behind : List Field → List Line → Result (List Field) Fault
fields_behind front lines = fields_of lines >>= λ fields. Ok (front ++ fields)

-- the line after `dn`: `changetype: add`, or an attribute's
unfoldable pub opening_of : Line → Result (List Field) Fault
opening_of line = do
  changetype ← is_changetype line
  if changetype then Ok [] else field_at line >>= λ field. Ok (field ∷ [])

-- what stands after `dn`
unfoldable pub body_of : List Line → Result (List Field) Fault
body_of [] = Ok []
body_of (line ∷ lines) = do
  front ← opening_of line
  fields_behind front lines

-- the record
unfoldable pub record_of : Block → Result Entry Fault
record_of block = do
  head ← from_dn block.first block.others
  dn ← dn_at head.first
  fields ← body_of head.others
  Ok (record { line = head.first.number; dn = dn; fields = fields })
