-- Phase 2: the records of the schema, added in the order of the file, and then the whole.
use Rattle.std.specs.Prelude.{ℕ, List, [], ◌∷◌, map, Option, Some, None, Result, Ok}
use Rattle.ad_bytes.specs.Reading.{◌>>=◌, fault_as}
use Rattle.ad_ldif.specs.Records.{Field}
use Rattle.ad_schema.specs.declared.line.SchemaKind.{SchemaKind}
use Rattle.ad_schema.specs.declared.line.Line.{Line}
use Rattle.ad_schema.specs.declared.line.SchemaRecord.{SchemaRecord}
use Rattle.ad_schema.specs.Records.{added, finished}
use Rattle.ad_load_records.specs.declared.fault.LoadFault.{LoadFault}
use Rattle.ad_load_records.specs.Faults.{of_schema}
use Rattle.ad_load_records.specs.Records.{Record, records_in}

abbrev pub line_of : Field → Line
line_of field = record { name = field.name; value = field.value }

-- the schema with one record more, where it is one of the schema
abbrev pub added_if : List SchemaRecord → ℕ → Option SchemaKind → List Field → Result (List SchemaRecord) LoadFault
added_if schema line None fields = Ok schema
added_if schema line (Some kind) fields = fault_as (of_schema line) (added schema kind (map line_of fields))

unfoldable pub all_added : List SchemaRecord → List Record → Result (List SchemaRecord) LoadFault
all_added schema [] = Ok schema
all_added schema (r ∷ records) = added_if schema r.line r.kind r.fields >>= λ next. all_added next records

-- the schema of the records
unfoldable pub schema_of : List Record → Result (List SchemaRecord) LoadFault
schema_of records = all_added [] records >>= λ schema. fault_as (of_schema 0) (finished schema)

-- the schema of a text
unfoldable pub schema_in : List ℕ → Result (List SchemaRecord) LoadFault
schema_in text = records_in text >>= λ records. schema_of records
