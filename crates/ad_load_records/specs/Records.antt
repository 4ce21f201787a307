-- Phase 1: the records of the file in their order, each with its name after its grammar.
use Rattle.std.specs.Prelude.{ℕ, nat_le, Bool, true, false, if◌then◌else◌, codes, Option, Some, None, ok_or, List, []}
use Rattle.std.specs.Prelude.{◌∷◌, length, Result, Ok, Err}
use Rattle.std.specs.Option.{option_or}
use Rattle.ad_bytes.specs.Reading.{◌>>=◌, need}
use Rattle.ad_dn.specs.declared.rdn.Rdn.{Rdn}
use Rattle.ad_dn.specs.Reading.{dn_of}
use Rattle.ad_ldif.specs.Records.{Field, Entry, Fault}
use Rattle.ad_ldif.specs.Story.{Story, story}
use Rattle.ad_schema.specs.declared.line.SchemaKind.{SchemaKind}
use Rattle.ad_schema.specs.declared.line.SchemaKind.TheVariants.{Attribute, Class, Right}
use Rattle.ad_schema_classes.specs.Names.{same_name}
use Rattle.ad_load_records.specs.declared.fault.LoadFault.{LoadFault}
use Rattle.ad_load_records.specs.declared.fault.LoadCause.TheVariants as cause
use Rattle.ad_load_records.specs.Faults.{at, of_all, of_grammar}

-- the bytes of a text
unfoldable pub max_text : ℕ
max_text = 67108864

-- the lines of a text, and so its records: each has a byte
abbrev pub most_lines : ℕ
most_lines = 67108864

-- A record, by the line of its `dn`: its name, what it defines where it is a record of the schema, and its lines.
pub record Record : Type 0 where
  pub line : ℕ
  pub rdns : List Rdn
  pub kind : Option SchemaKind
  pub fields : List Field

-- ---- which records are of the schema

abbrev pub is_object_class : List ℕ → Bool
is_object_class name = same_name name (codes "objectClass")

abbrev pub kind_named : List ℕ → Option SchemaKind
kind_named value =
    if same_name value (codes "attributeSchema") then Some Attribute
    else (if same_name value (codes "classSchema") then Some Class
    else (if same_name value (codes "controlAccessRight") then Some Right
    else None))

abbrev pub kind_in : Field → Option SchemaKind
kind_in field = if is_object_class field.name then kind_named field.value else None

-- what the first line of objectClass says that names one of the three
unfoldable pub kind_of : List Field → Option SchemaKind
kind_of [] = None
kind_of (field ∷ fields) = option_or (kind_in field) (kind_of fields)

-- ---- one record

-- An object has a name. A record of the schema may have the empty one.
abbrev pub may_be_named : Option SchemaKind → List Rdn → Bool
may_be_named None [] = false
may_be_named _ rdns = true

unfoldable pub record_of : Entry → Result Record LoadFault
record_of entry = do
  dn ← ok_or (dn_of entry.dn) (at entry.line cause.Dn)
  _ ← need (may_be_named (kind_of entry.fields) dn.rdns) (at entry.line cause.Dn)
  Ok (record { line = entry.line; rdns = dn.rdns; kind = kind_of entry.fields; fields = entry.fields })

-- ---- all records

abbrev pub end_of : Option Fault → Result (List Record) LoadFault
end_of None = Ok []
end_of (Some f) = Err (at f.line (of_grammar f.kind))

-- the records of these entries, and after them the fault at which the text stops
unfoldable pub records_of : Option Fault → List Entry → Result (List Record) LoadFault
records_of stop [] = end_of stop
records_of stop (entry ∷ entries) = do
  first ← record_of entry
  others ← records_of stop entries
  Ok (first ∷ others)

-- those of a text that was told so
abbrev pub all_of : Story → Result (List Record) LoadFault
all_of told = records_of told.stop told.records

-- The length is judged before any record.
unfoldable pub records_in : List ℕ → Result (List Record) LoadFault
records_in text = do
  _ ← need (nat_le (length text) max_text) (of_all cause.TooLong)
  all_of (story text)
