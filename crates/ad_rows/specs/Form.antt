-- Which rows are of their forms, by kind and number, and the directory that they make.
use Rattle.std.specs.Prelude.{◌≡◌, ◌⊎◌, ℕ, ◌<◌, ◌-◌, ◌^◌, nat_lt, Bool, true, false, if◌then◌else◌}
use Rattle.std.specs.Prelude.{codes, length, List, slice_get, MatchOption, Result, Ok, Err}
use Rattle.std.specs.List.{AllByRecursion}
use Rattle.ad_value.specs.declared.syntax.Syntax.{Syntax}
use Rattle.ad_value.specs.Value.{Value, as_shown}
use Rattle.ad_value.specs.declared.fault.ValueFault.{ValueFault}
use Rattle.ad_value.specs.ValueOf.{normal_or_fault}
use Rattle.ad_schema.specs.Attributes.{attrs_of}
use Rattle.ad_schema.specs.Meaning.{attr_is_link}
use Rattle.ad_schema.specs.Sound.{MakeSchema}
use Rattle.ad_schema.specs.declared.line.SchemaRecord.{SchemaRecord}
use Rattle.prop_queue.specs.declared.pending.Pending.{Pending}
use Rattle.row_store.specs.Table.{Table}
use Rattle.ad_dir_model.specs.Attributes.{is_named, syntax_at}
use Rattle.ad_dir_model.specs.Object.{Stored, plain, link, Held, Object}
use Rattle.ad_dir_model.specs.Objects.{Rise}
use Rattle.ad_dir_model.specs.Directory.{Directory, Meta}
use Rattle.ad_dir_model.specs.Soundness.{AttrsRiseFrom}
use Rattle.ad_rows_write.specs.Body.{SpellsObject, SpellsQueue, SpellsMeta, SpellsRecord}
use Rattle.ad_rows_write.specs.Rows.{Shows, AreRowsOf}

-- ---- the schema

-- The rows of kind 4 are these records, numbered from 0 without a gap, and they make a schema.
pub record HasSchema (table : Table) (schema : List SchemaRecord) : Type 0 where
  pub rows : (i : ℕ) → Shows SpellsRecord (slice_get schema i) (table 4 i)
  pub makes : MakeSchema schema

-- where the rows make no schema, no attribute counts as a link
abbrev pub CountsAsLink : Table → ℕ → Type 0
CountsAsLink table attr = (schema : List SchemaRecord) × HasSchema table schema × (attr_is_link schema attr ≡ true)

-- ---- an object's row

-- a link exactly where the attribute counts as one
abbrev pub IsOfKind : Type 0 → Stored → Type 0
IsOfKind Link (plain value) = Link → ⊥
IsOfKind Link (link number) = Link

-- with at least one value
pub record IsHeldForm (Link : ℕ → Type 0) (held : Held) : Type 0 where
  pub some : 0 < length held.values
  pub each : AllByRecursion (IsOfKind (Link held.attr)) held.values

-- The body of some object, whose attributes rise.
pub record IsObjectBody (Link : ℕ → Type 0) (body : List ℕ) : Type 0 where
  pub object : Object
  pub spelled : SpellsObject object body
  pub rise : AttrsRiseFrom 0 object.values
  pub each : AllByRecursion (IsHeldForm Link) object.values

-- ---- the rows

-- A row of this kind and number may have this body.
pub data IsForm (table : Table) (kind number : ℕ) (body : List ℕ) : Type 0 where
  object_form : kind ≡ 1 → 0 < number → number < 2 ^ 32 - 1 → IsObjectBody (CountsAsLink table) body
      → IsForm table kind number body
  queue_form : kind ≡ 2 → number ≡ 0 → (pending : List Pending) → SpellsQueue pending body → IsForm table kind number
      body
  meta_form : kind ≡ 3 → number ≡ 0 → (meta : Meta) → SpellsMeta meta body → IsForm table kind number body
  record_form : kind ≡ 4 → number < 2 ^ 32 - 1 → (r : SchemaRecord) → SpellsRecord r body → IsForm table kind number
      body

-- the rows that always stand: of the pending list and of the counters
abbrev pub MustStand : ℕ → ℕ → Type 0
MustStand kind number = ((kind ≡ 2) ⊎ (kind ≡ 3)) × (number ≡ 0)

-- What stands at a kind and number is of its form, and something stands there where it must.
abbrev pub IsRight : Table → ℕ → ℕ → Type 0
IsRight table kind number = MatchOption (table kind number) (MustStand kind number → ⊥) (IsForm table kind number)

abbrev pub AreRight : Table → Type 0
AreRight table = (kind number : ℕ) → IsRight table kind number

-- a kind and number come before others
abbrev pub IsSooner : ℕ → ℕ → ℕ → ℕ → Type 0
IsSooner kind number next_kind next_number = (kind < next_kind) ⊎ ((kind ≡ next_kind) × (number < next_number))

-- What stands there isn't of its form, or nothing stands where something must; and everything before is as it must
-- be.
pub record IsLeastBad (table : Table) (kind number : ℕ) : Type 0 where
  pub bad : IsRight table kind number → ⊥
  pub before : (k n : ℕ) → IsSooner k n kind number → IsRight table k n

-- ---- the directory

-- the value that a reader gives, with the bytes as they stand
abbrev pub value_kept : List ℕ → Result Value ValueFault → Value
value_kept bytes (Ok value) = record { shown = bytes; key = value.key }
value_kept bytes (Err fault) = as_shown bytes

abbrev pub value_by : Bool → Syntax → List ℕ → Value
value_by true syntax bytes = as_shown bytes
value_by false syntax bytes = value_kept bytes (normal_or_fault syntax bytes)

-- The value of these bytes: by the attribute's syntax, where they are a value of it.
abbrev pub value_of : List SchemaRecord → ℕ → List ℕ → Value
value_of schema attr bytes = if nat_lt attr (length (attrs_of schema))
    then value_by (is_named schema (codes "unicodePwd") attr) (syntax_at schema attr) bytes
    else as_shown bytes

-- a link exactly where the attribute is one, and else the value of the bytes
abbrev pub IsByBytes : List SchemaRecord → ℕ → Stored → Type 0
IsByBytes schema attr (plain value) = (attr_is_link schema attr ≡ false) × (value ≡ value_of schema attr value.shown)
IsByBytes schema attr (link number) = attr_is_link schema attr ≡ true

pub record IsHeldByRow (schema : List SchemaRecord) (held : Held) : Type 0 where
  pub some : 0 < length held.values
  pub each : AllByRecursion (IsByBytes schema held.attr) held.values

-- The object as it is read of its row.
pub record IsByRow (schema : List SchemaRecord) (o : Object) : Type 0 where
  pub rise : AttrsRiseFrom 0 o.values
  pub each : AllByRecursion (IsHeldByRow schema) o.values

-- The directory that the rows make, sound or not: they are its rows, and each object is as it is read.
pub record IsMade (table : Table) (dir : Directory) : Type 0 where
  pub rows : AreRowsOf dir table
  pub schema : MakeSchema dir.schema
  pub rise : Rise dir.objects
  pub objects : AllByRecursion (IsByRow dir.schema) dir.objects
