-- All rows of a sound directory are taken in: they are its objects by number, the pending list, the counters, and
-- the records in order.
use Rattle.std.proofs.Common.{◌≡◌, ◌∙◌, ℕ, suc, ◌+◌, ◌-◌, ◌^◌, ◌<◌, Bool, true, List, [], ◌∷◌, ◌++◌, length, map}
use Rattle.std.proofs.Common.{Option, Some, None, Result, Ok, Err, refl, sym, ap, append_assoc, arith, if◌then◌else◌}
use Rattle.std.specs.Prelude.{is_ok, is_some, codes}
use Rattle.std.specs.List.{AllByRecursion}
use Rattle.std.specs.Option.{option_and_then}
use Rattle.std.proofs.lemmas.List.{append-nil, length-append}
use Rattle.std.proofs.lemmas.Bool.{and_parts, eq-eqb, ne_eqb, lt-ltb}
use Rattle.ad_bytes.specs.Reading.{◌>>=◌, need}
use Rattle.ad_schema.specs.Records.{added, finished, checked, repeated, none_of, unknown, endless}
use Rattle.ad_schema.specs.Attributes.{names_of}
use Rattle.ad_schema.specs.declared.line.SchemaKind.TheVariants.{Attribute}
use Rattle.ad_schema.specs.declared.fault.SchemaFault.TheVariants as fault
use Rattle.ad_schema_classes.specs.Names.{place_of}
use Rattle.ad_schema.specs.Sound.{all_added, MakeSchema}
use Rattle.ad_schema.specs.declared.line.SchemaRecord.{SchemaRecord}
use Rattle.ad_schema.specs.declared.fault.SchemaFault.{SchemaFault}
use Rattle.row_store.specs.declared.row.Row.{Row}
use Rattle.prop_queue.specs.declared.pending.Pending.{Pending}
use Rattle.ad_dir_model.specs.Object.{Object}
use Rattle.ad_dir_model.specs.Objects.{RiseAbove}
use Rattle.ad_dir_model.specs.Directory.{Directory, Meta}
use Rattle.ad_dir_model.specs.Soundness.{IsContent}
use Rattle.ad_rows_sound.specs.Objects.{HasSmallNumber}
use Rattle.ad_rows_write.specs.Body.{SpellsObject, SpellsQueue, SpellsMeta, SpellsRecord}
use Rattle.ad_rows_write.specs.Listing.{IsRowAt, AreRowsAt, numbered, counted}
use Rattle.ad_rows.specs.Parsing.{object_in, queue_in, meta_in, record_in}
use Rattle.ad_rows.specs.declared.fault.RowFault.{RowFault}
use Rattle.ad_rows.specs.Taking.{Parts, no_parts, with_object, with_pending, with_meta, with_record, in_place}
use Rattle.ad_rows.specs.Taking.{with_any, with_row, with_rows, if_added, with_next, past, records_among}
use Rattle.ad_rows.specs.Taking.{schema_among}
use Rattle.ad_rows.proofs.Reread.{object_read, queue_read, meta_read, record_read}

abbrev pub row_with : ℕ → ℕ → List ℕ → Row
row_with kind number body = record { kind = kind; number = number; body = Some body }

pub row_is : {A : Type 0} (kind : ℕ) (Spells : A → List ℕ → Type 0) (pair : ℕ × A) (r : Row)
    (is : IsRowAt kind Spells pair r) → r ≡ row_with kind pair.0 is.2.0
row_is kind Spells pair r is = (λ i. record { kind = is.0 i; number = is.1 i; body = is.2.1 i })

-- ---- the objects

abbrev parts : List Object → ℕ → Option (List Pending) → Option Meta → Parts
parts objects last pending meta = record { objects = objects; last = last; pending = pending; meta = meta }

object_taken : (schema : List SchemaRecord) (os : List Object) (last : ℕ) (o : Object) (body : List ℕ) → last
    < o.number → o.number < 2 ^ 32 - 1 → object_in (Some schema) o.number body ≡ Ok o
    → with_row (Some schema) (parts os last None None) (row_with 1 o.number body)
    ≡ Ok (parts (os ++ o ∷ []) o.number None None)
unfolding with_row in_place with_any with_object
object_taken schema os last o body above below read
    = rw (lt-ltb last o.number above, lt-ltb o.number (2 ^ 32 - 1) below, read) refl

-- as all objects but the last are
record Swept (schema : List SchemaRecord) (os : List Object) (last : ℕ) (new : List Object) (rows tail : List Row)
    : Type 0 where
  end : ℕ
  is : with_rows (Some schema) (parts os last None None) (rows ++ tail) ≡ with_rows (Some schema)
      (parts (os ++ new) end None None) tail

objects_taken : (schema : List SchemaRecord) (os : List Object) (last : ℕ) (new : List Object) (rows tail : List Row)
    → AreRowsAt 1 SpellsObject (map numbered new) rows → RiseAbove last new → AllByRecursion HasSmallNumber new
    → AllByRecursion (IsContent schema) new → Swept schema os last new rows tail
unfolding with_rows
objects_taken schema os last [] rows tail are rise small all = record {
  end = last;
  is = (λ i. with_rows (Some schema) (parts (sym (append-nil os) i) last None None) (are i ++ tail));
}
objects_taken schema os last (o ∷ new) [] tail are rise small all = absurd are
objects_taken schema os last (o ∷ new) (r ∷ rows) tail are rise small all =
    let body = are.0.2.0 in
    let rest = objects_taken schema (os ++ o ∷ []) o.number new rows tail are.1 rise.1 small.1 all.1 in
    let one : with_row (Some schema) (parts os last None None) r ≡ Ok (parts (os ++ o ∷ []) o.number None None) =
    ap (with_row (Some schema) (parts os last None None)) (row_is 1 SpellsObject (numbered o) r are.0)
    ∙ object_taken schema os last o body rise.0 small.0 (object_read schema o body all.0 are.0.2.2) in
    record {
      end = rest.end;
      is =
          ap (λ (x : Result Parts RowFault). x >>= λ more. with_rows (Some schema) more (rows ++ tail)) one ∙ rest.is
          ∙ ap (λ (l : List Object). with_rows (Some schema) (parts l rest.end None None) tail)
          (append_assoc os (o ∷ []) new);
    }

-- ---- the pending list and the counters

pending_taken : (schema : Option (List SchemaRecord)) (os : List Object) (last : ℕ) (pending : List Pending)
    (body : List ℕ) → queue_in body ≡ Ok pending
    → with_row schema (parts os last None None) (row_with 2 0 body) ≡ Ok (parts os last (Some pending) None)
unfolding with_row in_place with_any with_pending
pending_taken schema os last pending body read = rw read refl

meta_taken : (schema : Option (List SchemaRecord)) (os : List Object) (last : ℕ) (pending : List Pending)
    (meta : Meta) (body : List ℕ) → meta_in body ≡ Ok meta
    → with_row schema (parts os last (Some pending) None) (row_with 3 0 body)
    ≡ Ok (parts os last (Some pending) (Some meta))
unfolding with_row in_place with_any with_meta
meta_taken schema os last pending meta body read = rw read refl

-- ---- the records

record_taken : (schema : Option (List SchemaRecord)) (os : List Object) (last : ℕ) (pending : List Pending)
    (meta : Meta) (n : ℕ) (r : SchemaRecord) (body : List ℕ) → n < 2 ^ 32 - 1 → record_in body ≡ Ok r
    → with_row schema (parts os last (Some pending) (Some meta)) (row_with 4 n body)
    ≡ Ok (parts os last (Some pending) (Some meta))
unfolding with_row in_place with_any with_record
record_taken schema os last pending meta n r body below read = rw (lt-ltb n (2 ^ 32 - 1) below, read) refl

records_taken : (schema : Option (List SchemaRecord)) (os : List Object) (last : ℕ) (pending : List Pending)
    (meta : Meta) (from : ℕ) (records : List SchemaRecord) (rows : List Row) → from + length records < 2 ^ 32
    → AreRowsAt 4 SpellsRecord (counted from records) rows
    → with_rows schema (parts os last (Some pending) (Some meta)) rows ≡ Ok (parts os last (Some pending) (Some meta))
unfolding with_rows
records_taken schema os last pending meta from [] rows few are
    = ap (with_rows schema (parts os last (Some pending) (Some meta))) are
records_taken schema os last pending meta from (x ∷ records) [] few are = absurd are
records_taken schema os last pending meta from (x ∷ records) (r ∷ rows) few are =
    let all = parts os last (Some pending) (Some meta) in
    let body = are.0.2.0 in
    let below : from < 2 ^ 32 - 1 = omega (arith, few) in
    let one : with_row schema all r ≡ Ok all = ap (with_row schema all) (row_is 4 SpellsRecord (from, x) r are.0)
    ∙ record_taken schema os last pending meta from x body below (record_read x body are.0.2.2) in
    ap (λ (y : Result Parts RowFault). y >>= λ more. with_rows schema more rows) one ∙ records_taken schema os last
    pending meta (suc from) records rows (omega (arith, few)) are.1

pub all_taken : (dir : Directory) (objects records : List Row) (queue meta : Row) → AreRowsAt 1 SpellsObject
    (map numbered dir.objects) objects → IsRowAt 2 SpellsQueue (0, dir.pending) queue
    → IsRowAt 3 SpellsMeta (0, dir.meta) meta → AreRowsAt 4 SpellsRecord (counted 0 dir.schema) records
    → RiseAbove 0 dir.objects → AllByRecursion HasSmallNumber dir.objects → AllByRecursion (IsContent dir.schema)
    dir.objects → length dir.schema < 2 ^ 32
    → (end : ℕ) × (with_rows (Some dir.schema) no_parts (objects ++ (queue ∷ meta ∷ records))
    ≡ Ok (parts dir.objects end (Some dir.pending) (Some dir.meta)))
unfolding with_rows
all_taken dir objects records queue meta are is_queue is_meta are_records rise small all few =
    let schema = Some dir.schema in
    let swept = objects_taken dir.schema [] 0 dir.objects objects (queue ∷ meta ∷ records) are rise small all in
    let pending : with_row schema (parts dir.objects swept.end None None) queue
    ≡ Ok (parts dir.objects swept.end (Some dir.pending) None) =
    ap (with_row schema (parts dir.objects swept.end None None))
    (row_is 2 SpellsQueue (0, dir.pending) queue is_queue) ∙ pending_taken schema dir.objects swept.end
    dir.pending is_queue.2.0 (queue_read dir.pending is_queue.2.0 is_queue.2.2) in
    let counters : with_row schema (parts dir.objects swept.end (Some dir.pending) None) meta
    ≡ Ok (parts dir.objects swept.end (Some dir.pending) (Some dir.meta)) =
    ap (with_row schema (parts dir.objects swept.end (Some dir.pending) None))
    (row_is 3 SpellsMeta (0, dir.meta) meta is_meta) ∙ meta_taken schema dir.objects swept.end dir.pending
    dir.meta is_meta.2.0 (meta_read dir.meta is_meta.2.0 is_meta.2.2) in (
      swept.end,
      swept.is
          ∙ ap (λ (y : Result Parts RowFault). y >>= λ more. with_rows schema more (meta ∷ records)) pending
          ∙ ap (λ (y : Result Parts RowFault). y >>= λ more. with_rows schema more records) counters
          ∙ records_taken schema dir.objects swept.end dir.pending dir.meta 0 dir.schema records (omega (arith, few))
          are_records,
    )

-- ---- the schema

pub added_is : (before : List SchemaRecord) (r : SchemaRecord) → is_ok (added before r.kind r.lines) ≡ true
    → added before r.kind r.lines ≡ Ok (before ++ r ∷ [])
unfolding added
added_is before r ok = by (checked r.kind r.lines) (none_of _ (repeated before r.kind r.lines)) ok
  where
    by : (a b : Result (Unit {0}) SchemaFault) → is_ok (a >>= λ _. b >>= λ _. Ok (before ++ r ∷ [])) ≡ true
        → (a >>= λ _. b >>= λ _. Ok (before ++ r ∷ [])) ≡ Ok (before ++ r ∷ [])
    by (Ok x) (Ok y) is = refl
    by (Ok x) (Err e) is = absurd cc
    by (Err e) b is = absurd cc

pub next_is : (before : List SchemaRecord) (r : SchemaRecord) (body : List ℕ) → length before < 2 ^ 32 - 1
    → record_in body ≡ Ok r → is_ok (added before r.kind r.lines) ≡ true
    → with_next before (row_with 4 (length before) body) ≡ Some (before ++ r ∷ [])
unfolding with_next
next_is before r body few read ok = rw (
  eq-eqb (length before) (length before) refl,
  lt-ltb (length before)
      (2 ^ 32 - 1) few,
  read,
  added_is before r ok,
) refl

records_found : (before records : List SchemaRecord) (from : ℕ) (rows : List Row) → from ≡ length before → from
    + length records < 2 ^ 32 → all_added before records ≡ true → AreRowsAt 4 SpellsRecord (counted from records) rows
    → records_among before rows ≡ Some (before ++ records)
unfolding records_among all_added past
records_found before [] from rows long few ok are = ap (records_among before) are
    ∙ ap (λ (l : List SchemaRecord). Some l) (sym (append-nil before))
records_found before (x ∷ records) from [] long few ok are = absurd are
records_found before (x ∷ records) from (r ∷ rows) long few ok are =
    let parts = and_parts (is_ok (added before x.kind x.lines)) (all_added (before ++ x ∷ []) records) ok in
    let body = are.0.2.0 in
    let below : length before < 2 ^ 32 - 1 = omega (arith, few, long) in
    let next : with_next before r ≡ Some (before ++ x ∷ []) =
    ap (with_next before) (row_is 4 SpellsRecord (from, x) r are.0 ∙ ap (λ (n : ℕ). row_with 4 n body) long)
    ∙ next_is before x body below (record_read x body are.0.2.2) parts.0 in
    let longer : suc from ≡ length (before ++ x ∷ []) = omega (arith, long, length-append before (x ∷ [])) in
    let rest = records_found (before ++ x ∷ []) records (suc from) rows longer (omega (arith, few)) parts.1 are.1 in
    let passes : past before r ≡ Some (before ++ x ∷ [])
    = ap (λ (b : Bool). if b then with_next before r else Some before) (eq-eqb r.kind 4 are.0.0) ∙ next in
    ap (option_and_then (λ more. records_among more rows)) passes ∙ rest ∙ ap (λ (l : List SchemaRecord). Some l)
    (append_assoc before (x ∷ []) records)

-- rows of another kind are passed over
passed : {A : Type 0} (kind : ℕ) (Spells : A → List ℕ → Type 0) (pairs : List (ℕ × A)) (before : List SchemaRecord)
    (rows tail : List Row) → (kind ≡ 4 → ⊥) → AreRowsAt kind Spells pairs rows → records_among before (rows ++ tail)
    ≡ records_among before tail
unfolding records_among past
passed kind Spells [] before rows tail other are = ap (λ (l : List Row). records_among before (l ++ tail)) are
passed kind Spells (pair ∷ pairs) before [] tail other are = absurd are
passed kind Spells (pair ∷ pairs) before (r ∷ rows) tail other are =
    let passes : past before r ≡ Some before = ap (λ (b : Bool). if b then with_next before r else Some before)
    (ne_eqb r.kind 4 (λ is. other (sym are.0.0 ∙ is))) in
    ap (option_and_then (λ more. records_among more (rows ++ tail))) passes
    ∙ passed kind Spells pairs before rows tail other are.1

pub finished_is : (records : List SchemaRecord) → is_ok (finished records) ≡ true → if_added (finished records)
    ≡ Some records
unfolding finished
finished_is records ok =
    by (none_of fault.Unknown (unknown records))
    (need (is_some (place_of (names_of Attribute records) (codes "cn"))) (fault.Unknown (codes "cn")))
    (none_of fault.Loop (endless records)) ok
  where
    by : (a b c : Result (Unit {0}) SchemaFault) → is_ok (a >>= λ _. b >>= λ _. c >>= λ _. Ok records) ≡ true
        → if_added (a >>= λ _. b >>= λ _. c >>= λ _. Ok records) ≡ Some records
    by (Ok x) (Ok y) (Ok z) is = refl
    by (Ok x) (Ok y) (Err e) is = absurd cc
    by (Ok x) (Err e) c is = absurd cc
    by (Err e) b c is = absurd cc

pub schema_found : (dir : Directory) (objects records : List Row) (queue meta : Row) → AreRowsAt 1 SpellsObject
    (map numbered dir.objects) objects → IsRowAt 2 SpellsQueue (0, dir.pending) queue
    → IsRowAt 3 SpellsMeta (0, dir.meta) meta → AreRowsAt 4 SpellsRecord (counted 0 dir.schema) records
    → MakeSchema dir.schema → schema_among (objects ++ (queue ∷ meta ∷ records)) ≡ Some dir.schema
unfolding schema_among
schema_found dir objects records queue meta are is_queue is_meta are_records makes =
    let all : records_among [] (objects ++ (queue ∷ meta ∷ records)) ≡ Some dir.schema =
    passed 1 SpellsObject (map numbered dir.objects) [] objects (queue ∷ meta ∷ records) (λ is. omega (arith, is)) are
    ∙ passed 2 SpellsQueue ((0, dir.pending) ∷ []) [] (queue ∷ []) (meta ∷ records) (λ is. omega (arith, is))
    (is_queue, refl)
    ∙ passed 3 SpellsMeta ((0, dir.meta) ∷ []) [] (meta ∷ []) records (λ is. omega (arith, is)) (is_meta, refl)
    ∙ records_found [] dir.schema 0 records refl (let few = makes.added.few in omega (arith, few)) makes.added.added
    are_records in
    ap (option_and_then (λ rs. if_added (finished rs))) all ∙ finished_is dir.schema makes.finished
