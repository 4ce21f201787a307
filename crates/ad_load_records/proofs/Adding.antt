-- Records of a schema, added one after the other.
use Rattle.std.proofs.Common.{◌≡◌, ℕ, ◌+◌, ◌<◌, ◌≤◌, false, Option, Some, None, Result, Ok, Err, List, [], ◌∷◌}
use Rattle.std.proofs.Common.{◌++◌, length, map, get_or, drop, refl, ap, ◌∙◌, arith}
use Rattle.std.proofs.lemmas.List.{drop_all, length-append}
use Rattle.std.proofs.lemmas.Bool.{true≢false}
use Rattle.ad_bytes.specs.Reading.{◌>>=◌, fault_as}
use Rattle.ad_ldif.specs.Records.{Field}
use Rattle.ad_schema.specs.declared.fault.SchemaFault.{SchemaFault}
use Rattle.ad_schema.specs.declared.fault.SchemaFault.TheVariants as fault
use Rattle.ad_schema.specs.declared.line.SchemaKind.{SchemaKind}
use Rattle.ad_schema.specs.declared.line.Line.{Line}
use Rattle.ad_schema.specs.declared.line.SchemaRecord.{SchemaRecord}
use Rattle.ad_schema.specs.Records.{checked, repeated, none_of, added, finished, is_memory as no_memory_left}
use Rattle.ad_load_records.specs.declared.fault.LoadFault.{LoadFault}
use Rattle.ad_load_records.specs.declared.records.Record.{Record as Held}
use Rattle.ad_load_records.specs.Faults.{is_memory, of_schema}
use Rattle.ad_load_records.specs.Records.{Record}
use Rattle.ad_load_records.specs.Schema.{line_of, added_if, all_added, schema_of}
use Rattle.ad_load_records.specs.Seen.{seen}
use Rattle.ad_load_records.proofs.Lists.{cut}

-- a fault of the schema is want of memory here exactly where it is there
same_memory : (line : ℕ) (f : SchemaFault) → is_memory (of_schema line f) ≡ false → no_memory_left f ≡ false
same_memory line (fault.Missing n) m = refl
same_memory line (fault.Value n) m = refl
same_memory line (fault.Repeated n) m = refl
same_memory line (fault.Unknown n) m = refl
same_memory line (fault.Loop n) m = refl
same_memory line fault.Memory m = absurd (true≢false m)

pub fault_of_schema : {A : Type 0} (line : ℕ) (f : SchemaFault) (r : Result A SchemaFault)
    → (no_memory_left f ≡ false → r ≡ Err f) → is_memory (of_schema line f) ≡ false
    → fault_as (of_schema line) r ≡ Err (of_schema line f)
fault_of_schema line f r g m = ap (fault_as (of_schema line)) (g (same_memory line f m))

-- one record at least as long
one_more : (records next : List SchemaRecord) (kind : SchemaKind) (lines : List Line) → added records kind lines
    ≡ Ok next → length next ≤ length records + 1
unfolding added
one_more records next kind lines e = by (checked kind lines) (none_of fault.Repeated (repeated records kind lines)) e
  where
    by : (a b : Result (Unit {0}) SchemaFault) → (a >>= λ _. b >>= λ _. Ok
        (records ++ record { kind = kind; lines = lines } ∷ [])) ≡ Ok next → length next ≤ length records + 1
    by (Err f) b q = absurd cc
    by (Ok u) (Err f) q = absurd cc
    by (Ok u) (Ok v) q =
        let last : List SchemaRecord = record { kind = kind; lines = lines } ∷ [] in
        let same : records ++ last ≡ next = cc in
        omega (arith, ap length same, length-append records last)

pub added_more : (records next : List SchemaRecord) (line : ℕ) (kind : Option SchemaKind) (fields : List Field)
    → added_if records line kind fields ≡ Ok next → length next ≤ length records + 1
added_more records next line None fields e = let same : records ≡ next = cc in omega (arith, ap length same)
added_more records next line (Some kind) fields e = by (added records kind (map line_of fields)) refl e where
  by : (r : Result (List SchemaRecord) SchemaFault) → added records kind (map line_of fields) ≡ r
      → fault_as (of_schema line) r ≡ Ok next → length next ≤ length records + 1
  by (Ok x) is q = one_more records next kind (map line_of fields) (is ∙ ap (λ (t : List SchemaRecord). Ok t) cc)
  by (Err f) is q = absurd cc

-- ---- the loop

next_added : (records : List Held) (i : ℕ) (one : Held) (schema : List SchemaRecord) → i < length records
    → get_or records i one ≡ one
    → all_added schema (map seen (drop i records)) ≡ (added_if schema (seen one).line (seen one).kind
    (seen one).fields >>= λ next. all_added next (map seen (drop (i + 1) records)))
unfolding all_added
next_added records i one schema lt is = ap (λ rs. all_added schema (map seen rs)) (cut records i one lt is)

pub one_added : (records : List Held) (i : ℕ) (one : Held) (schema next : List SchemaRecord) → i < length records
    → get_or records i one ≡ one → added_if schema (seen one).line (seen one).kind (seen one).fields ≡ Ok next
    → all_added schema (map seen (drop i records)) ≡ all_added next (map seen (drop (i + 1) records))
one_added records i one schema next lt is e = next_added records i one schema lt is
    ∙ ap (λ (r : Result (List SchemaRecord) LoadFault). r >>= λ x. all_added x (map seen (drop (i + 1) records))) e

pub one_refused : (records : List Held) (i : ℕ) (one : Held) (schema : List SchemaRecord) (f : LoadFault)
    → i < length records → get_or records i one ≡ one → added_if schema (seen one).line (seen one).kind
    (seen one).fields ≡ Err f
    → all_added schema (map seen (drop i records)) ≡ Err f
one_refused records i one schema f lt is e = next_added records i one schema lt is
    ∙ ap (λ (r : Result (List SchemaRecord) LoadFault). r >>= λ x. all_added x (map seen (drop (i + 1) records))) e

pub all_are_added : (records : List Held) (i : ℕ) (schema : List SchemaRecord) → length records ≤ i
    → all_added schema (map seen (drop i records)) ≡ Ok schema
unfolding all_added
all_are_added records i schema le = ap (λ rs. all_added schema (map seen rs)) (drop_all i records le)

pub refused : (records : List Record) (f : LoadFault) → all_added [] records ≡ Err f → schema_of records ≡ Err f
unfolding schema_of
refused records f e = ap (λ (r : Result (List SchemaRecord) LoadFault). r >>= λ schema.
    fault_as (of_schema 0) (finished schema)) e

pub all_done : (records : List Record) (schema : List SchemaRecord) → all_added [] records ≡ Ok schema
    → schema_of records ≡ fault_as (of_schema 0) (finished schema)
unfolding schema_of
all_done records schema e = ap (λ (r : Result (List SchemaRecord) LoadFault). r >>= λ x.
    fault_as (of_schema 0) (finished x)) e
