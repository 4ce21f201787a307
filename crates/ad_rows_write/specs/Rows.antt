-- The rows that represent a directory: one an object, one of the pending list, one of the counters, one a record of
-- the schema.
use Rattle.std.specs.Prelude.{◌≡◌, ◌⊎◌, ◌<◌, ℕ, List, slice_get, Option, Some, None, MatchOption}
use Rattle.site_io.specs.Disk.{Images}
use Rattle.row_store.specs.declared.row.Row.{Row}
use Rattle.row_store.specs.Rows.{HasTable}
use Rattle.row_store.specs.Table.{Table}
use Rattle.ad_dir_model.specs.Objects.{object_of}
use Rattle.ad_dir_model.specs.Directory.{Directory, Edit, put_object, remove_object, put_queue, put_meta}
use Rattle.ad_dir_model.specs.Soundness.{IsSound}
use Rattle.ad_rows_write.specs.Body.{SpellsObject, SpellsQueue, SpellsMeta, SpellsRecord}

-- a body stands there, of this form
abbrev pub HasBody : (List ℕ → Type 0) → Option (List ℕ) → Type 0
HasBody Spells stands = (body : List ℕ) × (stands ≡ Some body) × Spells body

-- a body of the value, where there is one, and nothing where there is none
abbrev pub Shows : {A : Type 0} → (A → List ℕ → Type 0) → Option A → Option (List ℕ) → Type 0
Shows Spells value stands = MatchOption value (stands ≡ None) (λ x. HasBody (Spells x) stands)

-- Kind 1 has the objects by their numbers, 2 the pending list, 3 the counters, and 4 the schema's records from 0
-- on; nothing else stands.
pub record AreRowsOf (dir : Directory) (table : Table) : Type 0 where
  pub objects : (number : ℕ) → Shows SpellsObject (object_of dir.objects number) (table 1 number)
  pub queue : HasBody (SpellsQueue dir.pending) (table 2 0)
  pub meta : HasBody (SpellsMeta dir.meta) (table 3 0)
  pub schema : (i : ℕ) → Shows SpellsRecord (slice_get dir.schema i) (table 4 i)
  pub no_queue : (number : ℕ) → 0 < number → table 2 number ≡ None
  pub no_meta : (number : ℕ) → 0 < number → table 3 number ≡ None
  pub no_kind : (kind number : ℕ) → (kind ≡ 0) ⊎ (4 < kind) → table kind number ≡ None

-- Each sound directory for which the rows stand is this one.
abbrev pub IsOnlyOf : Table → Directory → Type 0
IsOnlyOf table dir = (other : Directory) → AreRowsOf other table → IsSound other → other ≡ dir

-- The slots are those of a store that represents a directory, which is sound.
pub record IsStoreOf (images : Images) (dir : Directory) : Type 0 where
  pub table : Table
  pub has : HasTable images table
  pub rows : AreRowsOf dir table
  pub sound : IsSound dir

-- the row that an edit changes, and what it makes of it
abbrev pub IsRowOf : Edit → Row → Type 0
IsRowOf (put_object o) row = (row.kind ≡ 1) × (row.number ≡ o.number) × HasBody (SpellsObject o) row.body
IsRowOf (remove_object number) row = (row.kind ≡ 1) × (row.number ≡ number) × (row.body ≡ None)
IsRowOf (put_queue pending) row = (row.kind ≡ 2) × (row.number ≡ 0) × HasBody (SpellsQueue pending) row.body
IsRowOf (put_meta meta) row = (row.kind ≡ 3) × (row.number ≡ 0) × HasBody (SpellsMeta meta) row.body
