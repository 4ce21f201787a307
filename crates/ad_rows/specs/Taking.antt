-- What is taken in of rows, one after the other.
use Rattle.std.specs.Prelude.{◌≡◌, ℕ, ◌-◌, ◌^◌, ◌==◌, ◌&&◌, ◌||◌, nat_lt, is_none, IfSome, Bool, true, false}
use Rattle.std.specs.Prelude.{length, List, [], ◌∷◌, ◌++◌, Option, Some, None, Result, Ok, Err, if◌then◌else◌}
use Rattle.std.specs.Option.{option_map, option_and_then}
use Rattle.ad_bytes.specs.Reading.{IsBytes, ◌>>=◌, need, fault_as}
use Rattle.ad_schema.specs.Records.{added, finished}
use Rattle.ad_schema.specs.declared.fault.SchemaFault.{SchemaFault}
use Rattle.ad_schema.specs.declared.line.SchemaRecord.{SchemaRecord}
use Rattle.prop_queue.specs.declared.pending.Pending.{Pending}
use Rattle.row_store.specs.declared.row.Row.{Row}
use Rattle.ad_dir_model.specs.Object.{Object}
use Rattle.ad_dir_model.specs.Directory.{Directory, Meta}
use Rattle.ad_dir_objects.specs.Seen.{meta_seen, objects_of}
use Rattle.ad_rows.specs.declared.parsing.BodyFault.{BodyFault}
use Rattle.ad_rows.specs.declared.parsing.BodyFault.TheVariants as body
use Rattle.ad_rows.specs.declared.fault.RowFault.{RowFault}
use Rattle.ad_rows.specs.declared.fault.RowFault.TheVariants as row
use Rattle.ad_rows.specs.declared.taking.Taken.{Taken}
use Rattle.ad_rows.specs.Parsing.{object_in, queue_in, meta_in, record_in}

-- the one fault that no rows have
abbrev pub is_memory : RowFault → Bool
is_memory (row.Row kind number) = false
is_memory row.Memory = true

-- What was taken in, as it is compared: which object is the first bad one isn't.
pub record Parts : Type 0 where
  pub objects : List Object
  pub last : ℕ
  pub pending : Option (List Pending)
  pub meta : Option Meta

abbrev pub parts_of : Taken → Parts
parts_of taken = record {
  objects = objects_of taken.objects.items;
  last = taken.last;
  pending = option_map (λ v. v.items) taken.pending;
  meta = option_map meta_seen taken.meta;
}

abbrev pub no_parts : Parts
no_parts = record { objects = []; last = 0; pending = None; meta = None }

-- all of a directory was taken in
pub record AreAll (dir : Directory) (parts : Parts) : Type 0 where
  pub objects : parts.objects ≡ dir.objects
  pub pending : parts.pending ≡ Some dir.pending
  pub meta : parts.meta ≡ Some dir.meta

-- the pending list and the counters were among the rows
abbrev pub completed : Parts → Result Parts RowFault
completed parts = if is_none parts.pending then Err (row.Row 2 0) else if is_none parts.meta then Err (row.Row 3 0)
    else Ok parts

-- what a body holds are bytes
abbrev pub HasBytes : Row → Type 0
HasBytes r = IfSome r.body IsBytes

-- ---- one row

abbrev pub bad_row : Row → RowFault
bad_row r = row.Row r.kind r.number

abbrev pub fault_of : Row → BodyFault → RowFault
fault_of r body.Bad = bad_row r
fault_of r body.Memory = row.Memory

abbrev pub stands_as : Row → Option (List ℕ) → Result (List ℕ) RowFault
stands_as r None = Err (bad_row r)
stands_as r (Some bytes) = Ok bytes

abbrev pub body_of : Row → Result (List ℕ) RowFault
body_of r = stands_as r r.body

-- a number above the last one, and below 2^32 - 1
abbrev pub number_of : Row → ℕ → Result ℕ RowFault
number_of r last = if nat_lt last r.number && nat_lt r.number (2 ^ 32 - 1) then Ok r.number else Err (bad_row r)

unfoldable pub with_object : Option (List SchemaRecord) → Parts → Row → Result Parts RowFault
with_object schema parts r = do
  number ← number_of r parts.last
  bytes ← body_of r
  object ← fault_as (fault_of r) (object_in schema number bytes)
  Ok (record { objects = parts.objects ++ object ∷ []; last = number; pending = parts.pending; meta = parts.meta })

unfoldable pub with_pending : Parts → Row → Result Parts RowFault
with_pending parts r = do
  bytes ← body_of r
  pending ← fault_as (fault_of r) (queue_in bytes)
  Ok (record { objects = parts.objects; last = parts.last; pending = Some pending; meta = parts.meta })

unfoldable pub with_meta : Parts → Row → Result Parts RowFault
with_meta parts r = do
  bytes ← body_of r
  meta ← fault_as (fault_of r) (meta_in bytes)
  Ok (record { objects = parts.objects; last = parts.last; pending = parts.pending; meta = Some meta })

-- a record of the schema is of its form
unfoldable pub with_record : Parts → Row → Result Parts RowFault
with_record parts r = do
  _ ← need (nat_lt r.number (2 ^ 32 - 1)) (bad_row r)
  bytes ← body_of r
  _ ← fault_as (fault_of r) (record_in bytes)
  Ok parts

-- a row after the one of this kind and number 0
abbrev pub is_behind : ℕ → Row → Bool
is_behind kind r = nat_lt kind r.kind || (r.kind == kind && nat_lt 0 r.number)

-- the pending list and the counters come before what comes after them
unfoldable pub in_place : Parts → Row → Result (Unit {0}) RowFault
in_place parts r = if is_none parts.pending && is_behind 2 r then Err (row.Row 2 0)
    else if is_none parts.meta && is_behind 3 r then Err (row.Row 3 0)
    else Ok tt

unfoldable pub with_any : Option (List SchemaRecord) → Parts → Row → Result Parts RowFault
with_any schema parts r = if r.kind == 1 then with_object schema parts r
    else if r.kind == 2 && r.number == 0 then with_pending parts r
    else if r.kind == 3 && r.number == 0 then with_meta parts r
    else if r.kind == 4 then with_record parts r
    else Err (bad_row r)

unfoldable pub with_row : Option (List SchemaRecord) → Parts → Row → Result Parts RowFault
with_row schema parts r = do
  _ ← in_place parts r
  with_any schema parts r

-- ---- all rows

unfoldable pub with_rows : Option (List SchemaRecord) → Parts → List Row → Result Parts RowFault
with_rows schema parts [] = Ok parts
with_rows schema parts (r ∷ rows) = do
  more ← with_row schema parts r
  with_rows schema more rows

-- ---- the schema

abbrev pub if_added : Result (List SchemaRecord) SchemaFault → Option (List SchemaRecord)
if_added (Ok records) = Some records
if_added (Err fault) = None

abbrev pub added_of : List SchemaRecord → Result SchemaRecord BodyFault → Option (List SchemaRecord)
added_of records (Ok r) = if_added (added records r.kind r.lines)
added_of records (Err fault) = None

-- the records with that of a row after them, where it is the next one and may stand there
unfoldable pub with_next : List SchemaRecord → Row → Option (List SchemaRecord)
with_next records r = if r.number == length records && nat_lt (length records) (2 ^ 32 - 1)
    then option_and_then (λ bytes. added_of records (record_in bytes)) r.body
    else None

-- the same after any row, which has a record or not
unfoldable pub past : List SchemaRecord → Row → Option (List SchemaRecord)
past records r = if r.kind == 4 then with_next records r else Some records

-- the records that stand among rows
unfoldable pub records_among : List SchemaRecord → List Row → Option (List SchemaRecord)
records_among records [] = Some records
records_among records (r ∷ rows) = option_and_then (λ more. records_among more rows) (past records r)

-- the schema that they make
unfoldable pub schema_among : List Row → Option (List SchemaRecord)
schema_among rows = option_and_then (λ records. if_added (finished records)) (records_among [] rows)
