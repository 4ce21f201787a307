-- The rows of a sound directory are those that would be written for it, so they are read as it.
use Rattle.std.proofs.Common.{◌≡◌, ◌∙◌, ℕ, suc, ◌+◌, true, List, [], ◌∷◌, ◌++◌, map, Option, Some, Ok, refl, sym, ap}
use Rattle.std.proofs.Common.{subst, append_assoc, arith}
use Rattle.std.specs.Prelude.{slice_get}
use Rattle.std.specs.List.{AllByRecursion}
use Rattle.ad_schema.specs.declared.line.SchemaRecord.{SchemaRecord}
use Rattle.row_store.specs.declared.row.Row.{Row}
use Rattle.row_store.specs.Table.{Table, table_of, AreListed}
use Rattle.ad_dir_model.specs.Object.{Object}
use Rattle.ad_dir_model.specs.Objects.{Rise, object_of, is_live, numbers}
use Rattle.ad_dir_model.specs.Limits.{max_counter}
use Rattle.ad_dir_model.specs.Directory.{Directory}
use Rattle.ad_dir_model.specs.Soundness.{IsContent, IsSound}
use Rattle.ad_dir_model.proofs.Finding.{of_number, live-of}
use Rattle.ad_rows_sound.specs.Objects.{HasSmallNumber}
use Rattle.ad_rows_sound.proofs.Leasts.{all_found}
use Rattle.ad_rows_write.specs.Body.{SpellsObject, SpellsQueue, SpellsMeta, SpellsRecord}
use Rattle.ad_rows_write.specs.Listing.{IsRowAt, AreRowsAt, numbered, counted, objects_at}
use Rattle.ad_rows_write.specs.Rows.{HasBody, Shows, AreRowsOf}
use Rattle.ad_rows.specs.Taking.{Parts, AreAll, no_parts, with_rows, schema_among}
use Rattle.ad_rows_write.proofs.Again.{pairs_are}
use Rattle.ad_rows.proofs.Fixed.{one_table}
use Rattle.ad_rows_write.proofs.InOrderWhole.{whole_stands}
use Rattle.ad_rows.proofs.Sorted.{same_rows}
use Rattle.ad_rows.proofs.Sweep.{all_taken, schema_found}

-- rows of a kind, by what stands in a table
record Built {A : Type 0} (kind : ℕ) (Spells : A → List ℕ → Type 0) (pairs : List (ℕ × A)) : Type 0 where
  rows : List Row
  are : AreRowsAt kind Spells pairs rows

build : {A : Type 0} (kind : ℕ) (Spells : A → List ℕ → Type 0) (table : Table) (pairs : List (ℕ × A))
    → AllByRecursion (λ (pair : ℕ × A). HasBody (Spells pair.1) (table kind pair.0)) pairs → Built kind Spells pairs
build kind Spells table [] all = record { rows = []; are = refl }
build kind Spells table (pair ∷ pairs) all =
    let rest = build kind Spells table pairs all.1 in
    record {
      rows = record { kind = kind; number = pair.0; body = table kind pair.0 } ∷ rest.rows;
      are = ((refl, refl, all.0), rest.are);
    }

numbered_all : (table : Table) (os : List Object)
    → AllByRecursion (λ (o : Object). HasBody (SpellsObject o) (table 1 o.number)) os
    → AllByRecursion (λ (pair : ℕ × Object). HasBody (SpellsObject pair.1) (table 1 pair.0)) (map numbered os)
numbered_all table [] all = tt
numbered_all table (o ∷ os) all = (all.0, numbered_all table os all.1)

counted_all : (table : Table) (from : ℕ) (records : List SchemaRecord)
    → ((i : ℕ) (r : SchemaRecord) → slice_get records i ≡ Some r → HasBody (SpellsRecord r) (table 4 (from + i)))
    → AllByRecursion (λ (pair : ℕ × SchemaRecord). HasBody (SpellsRecord pair.1) (table 4 pair.0))
    (counted from records)
counted_all table from [] each = tt
counted_all table from (r ∷ records) each = (
  (let same : from + 0 ≡ from = omega arith in subst (λ (n : ℕ). HasBody (SpellsRecord r) (table 4 n)) same
      (each 0 r refl)),
  counted_all table (suc from) records (λ i x at. let same : from + suc i ≡ suc from + i = omega arith
      in subst (λ (n : ℕ). HasBody (SpellsRecord x) (table 4 n)) same (each (suc i) x at)),
)

shown : {A : Type 0} (Spells : A → List ℕ → Type 0) (found : Option A) (stands : Option (List ℕ)) (x : A) → found
    ≡ Some x → Shows Spells found stands → HasBody (Spells x) stands
shown Spells found stands x is shows = subst (λ (o : Option _). Shows Spells o stands) is shows

-- rows in order, as they are written
record Written (dir : Directory) (rows : List Row) : Type 0 where
  objects : List Row
  records : List Row
  queue : Row
  meta : Row
  are : AreRowsAt 1 SpellsObject (map numbered dir.objects) objects
  is_queue : IsRowAt 2 SpellsQueue (0, dir.pending) queue
  is_meta : IsRowAt 3 SpellsMeta (0, dir.meta) meta
  are_records : AreRowsAt 4 SpellsRecord (counted 0 dir.schema) records
  whole : rows ≡ objects ++ (queue ∷ meta ∷ records)

written : (dir : Directory) (rows : List Row) → AreListed rows → AreRowsOf dir (table_of rows) → Rise dir.objects
    → Written dir rows
written dir rows listed of rise =
    let table = table_of rows in
    let each : AllByRecursion (λ (o : Object). HasBody (SpellsObject o) (table 1 o.number)) dir.objects =
    all_found (λ (o : Object). HasBody (SpellsObject o) (table 1 o.number)) 0 dir.objects rise
    (λ n o found. subst (λ (m : ℕ). HasBody (SpellsObject o) (table 1 m)) (sym (of_number dir.objects n o found))
    (shown SpellsObject (object_of dir.objects n) (table 1 n) o found (of.objects n))) in
    let objects = build 1 SpellsObject table (map numbered dir.objects) (numbered_all table dir.objects each) in
    let records = build 4 SpellsRecord table (counted 0 dir.schema)
    (counted_all table 0 dir.schema (λ i r at. let same : i ≡ 0 + i = omega arith
    in subst (λ (n : ℕ). HasBody (SpellsRecord r) (table 4 n)) same
    (shown SpellsRecord (slice_get dir.schema i) (table 4 i) r at (of.schema i)))) in
    let queue : Row = record { kind = 2; number = 0; body = table 2 0 } in
    let meta : Row = record { kind = 3; number = 0; body = table 3 0 } in
    let is_queue : IsRowAt 2 SpellsQueue (0, dir.pending) queue = (refl, refl, of.queue) in
    let is_meta : IsRowAt 3 SpellsMeta (0, dir.meta) meta = (refl, refl, of.meta) in
    let at : AreRowsAt 1 SpellsObject (objects_at dir.objects (numbers dir.objects)) objects.rows
    = subst (λ (pairs : List (ℕ × Object)). AreRowsAt 1 SpellsObject pairs objects.rows)
    (sym (pairs_are dir.objects rise)) objects.are in
    let all = objects.rows ++ (queue ∷ meta ∷ records.rows) in
    let with_queue = objects.rows ++ queue ∷ [] in
    let put : all ≡ (with_queue ++ meta ∷ []) ++ records.rows
    = sym (append_assoc with_queue (meta ∷ []) records.rows ∙ append_assoc objects.rows (queue ∷ [])
    (meta ∷ records.rows)) in
    let stand = whole_stands dir queue meta objects.rows with_queue (with_queue ++ meta ∷ []) all rise at is_queue
    refl is_meta refl (records.rows, records.are, put) in
    record {
      objects = objects.rows;
      records = records.rows;
      queue = queue;
      meta = meta;
      are = objects.are;
      is_queue = is_queue;
      is_meta = is_meta;
      are_records = records.are;
      whole = same_rows rows all listed stand.1 (one_table dir (table_of rows) (table_of all) of stand.0);
    }

-- the rows of one directory are one list
pub one_list : (dir : Directory) (a b : List Row) → AreListed a → AreListed b → AreRowsOf dir (table_of a)
    → AreRowsOf dir (table_of b) → a ≡ b
one_list dir a b la lb of_a of_b = same_rows a b la lb (one_table dir (table_of a) (table_of b) of_a of_b)

small : (dir : Directory) → IsSound dir → (n : ℕ) (o : Object) → object_of dir.objects n ≡ Some o → HasSmallNumber o
unfolding max_counter
small dir sound n o found =
    let live : is_live dir.objects n ≡ true = live-of dir.objects n o found in
    let number : o.number ≡ n = of_number dir.objects n o found in
    let above = sound.frame.counters.number_above n live in
    let fits = sound.frame.counters.number_fits in
    omega (arith, number, above, fits)

-- of a sound directory's rows all is read
pub reads_schema : (dir : Directory) (rows : List Row) → AreListed rows → AreRowsOf dir (table_of rows) → IsSound dir
    → schema_among rows ≡ Some dir.schema
reads_schema dir rows listed of sound =
    let w = written dir rows listed of sound.rise in
    ap schema_among w.whole ∙ schema_found dir w.objects w.records w.queue w.meta w.are w.is_queue w.is_meta
    w.are_records sound.frame.schema.makes

pub reads_all : (dir : Directory) (rows : List Row) → AreListed rows → AreRowsOf dir (table_of rows) → IsSound dir
    → (parts : Parts) × (with_rows (Some dir.schema) no_parts rows ≡ Ok parts) × AreAll dir parts
reads_all dir rows listed of sound =
    let w = written dir rows listed of sound.rise in
    let taken = all_taken dir w.objects w.records w.queue w.meta w.are w.is_queue w.is_meta w.are_records sound.rise
    (all_found HasSmallNumber 0 dir.objects sound.rise (small dir sound))
    (all_found (IsContent dir.schema) 0 dir.objects sound.rise (λ n o found. (sound.each n o found).content))
    sound.frame.schema.makes.added.few in (
      _,
      ap (with_rows (Some dir.schema) no_parts) w.whole
          ∙ taken.1,
      record { objects = refl; pending = refl; meta = refl },
    )
