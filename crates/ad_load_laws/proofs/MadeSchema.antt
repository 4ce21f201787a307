-- The schema that is read of records is one: its records can be added one after the other, and finished.
use Rattle.std.proofs.Common.{◌≡◌, ◌∙◌, ℕ, ◌+◌, ◌-◌, ◌^◌, ◌<◌, ◌≤◌, Option, Some, None, Ok, List, [], ◌∷◌, ◌++◌}
use Rattle.std.proofs.Common.{length, length-append, map, refl, sym, ap, subst, arith}
use Rattle.std.specs.Prelude.{is_some, is_ok, codes, nat_le}
use Rattle.std.proofs.lemmas.Bool.{leb-true}
use Rattle.ad_bytes.proofs.Steps.{from_fault_as}
use Rattle.ad_ldif.specs.Records.{Field}
use Rattle.ad_ldif.specs.Story.{story}
use Rattle.ad_schema.specs.declared.fault.SchemaFault.TheVariants as schema_fault
use Rattle.ad_schema.specs.declared.line.Line.{Line}
use Rattle.ad_schema.specs.declared.line.SchemaKind.{SchemaKind}
use Rattle.ad_schema.specs.declared.line.SchemaKind.TheVariants.{Attribute}
use Rattle.ad_schema.specs.declared.line.SchemaRecord.{SchemaRecord}
use Rattle.ad_schema.specs.Attributes.{names_of}
use Rattle.ad_schema.specs.Records.{checked, repeated, none_of, unknown, endless, added, finished}
use Rattle.ad_schema.specs.Sound.{AreAdded, MakeSchema}
use Rattle.ad_schema.proofs.SoundLemmas.{none_added, one_added}
use Rattle.ad_schema_classes.specs.Names.{place_of}
use Rattle.ad_load_records.specs.declared.fault.LoadCause.TheVariants as cause
use Rattle.ad_load_records.specs.Faults.{of_all, of_schema}
use Rattle.ad_load_records.specs.Records.{Record, max_text, all_of, records_in}
use Rattle.ad_load_records.specs.Schema.{line_of, added_if, all_added, schema_of}
use Rattle.ad_load_records.proofs.Few.{few_from}
use Rattle.ad_load_records.proofs.Inverting.{bind_ok, need_ok, load_is, schema_is}

-- one record more
added_more : (records next : List SchemaRecord) (kind : SchemaKind) (lines : List Line) → AreAdded records
    → length records < 2 ^ 32 - 1
    → added records kind lines ≡ Ok next → AreAdded next × (length next ≡ length records + 1)
unfolding added
added_more records next kind lines are few e =
    let a = bind_ok (checked kind lines) _ next e in
    let b = bind_ok (none_of schema_fault.Repeated (repeated records kind lines)) _ next a.2 in
    let same : records ++ record { kind = kind; lines = lines } ∷ [] ≡ next = schema_is _ next b.2 in (
      one_added records next kind lines (sym same) are few a.1 b.1,
      ap length (sym same)
          ∙ length-append records (record { kind = kind; lines = lines } ∷ []),
    )

more_if : (schema next : List SchemaRecord) (line : ℕ) (kind : Option SchemaKind) (fields : List Field)
    → AreAdded schema → length schema < 2 ^ 32 - 1
    → added_if schema line kind fields ≡ Ok next → AreAdded next × (length next ≤ length schema + 1)
more_if schema next line None fields are few e =
    let same : schema ≡ next = load_is schema next e in
    (subst AreAdded same are, omega (arith, ap length same))
more_if schema next line (Some kind) fields are few e =
    let one = added_more schema next kind (map line_of fields) are few
    (from_fault_as (of_schema line) (added schema kind (map line_of fields)) next e) in
    (one.0, omega (arith, one.1))

all_more : (schema end : List SchemaRecord) (records : List Record) → AreAdded schema → length schema + length records
    < 2 ^ 32
    → all_added schema records ≡ Ok end → AreAdded end
unfolding all_added
all_more schema end [] are few e = subst AreAdded (load_is schema end e) are
all_more schema end (r ∷ records) are few e =
    let a = bind_ok (added_if schema r.line r.kind r.fields) _ end e in
    let one = more_if schema a.0 r.line r.kind r.fields are (omega (arith, few)) a.1 in
    all_more a.0 end records one.0 (omega (arith, few, one.1)) a.2

finished_makes : (schema end : List SchemaRecord) → AreAdded schema → finished schema ≡ Ok end → MakeSchema end
unfolding finished
finished_makes schema end are e =
    let a = bind_ok (none_of schema_fault.Unknown (unknown schema)) _ end e in
    let b = need_ok (is_some (place_of (names_of Attribute schema) (codes "cn"))) (schema_fault.Unknown (codes "cn"))
    _ end a.2 in
    let c = bind_ok (none_of schema_fault.Loop (endless schema)) _ end b.1 in
    subst MakeSchema (schema_is schema end c.2) (record { added = are; finished = ap is_ok e })

pub schema_made : (records : List Record) (schema : List SchemaRecord) → length records < 2 ^ 32 → schema_of records
    ≡ Ok schema → MakeSchema schema
unfolding schema_of
schema_made records schema few e =
    let a = bind_ok (all_added [] records) _ schema e in
    finished_makes a.0 schema (all_more [] a.0 records (none_added [] refl) (omega (arith, few)) a.1)
    (from_fault_as (of_schema 0) (finished a.0) schema a.2)

pub records_few : (text : List ℕ) (rs : List Record) → records_in text ≡ Ok rs → length rs < 2 ^ 32
unfolding records_in story max_text
records_few text rs e =
    let a = need_ok (nat_le (length text) max_text) (of_all cause.TooLong) (λ (u : Unit {0}). all_of (story text)) rs
    e in
    let short : length text ≤ 67108864 = leb-true (length text) 67108864 a.0 in
    let few : length rs ≤ length text = few_from 1 text rs a.1 in
    omega (arith, short, few)
