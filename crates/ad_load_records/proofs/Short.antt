-- No value of a text that was read is too long, so none of its schema is.
use Rattle.std.proofs.Common.{◌≡◌, ℕ, Bool, true, false, Option, Some, None, Result, Ok, Err, List, [], ◌∷◌, ◌++◌}
use Rattle.std.proofs.Common.{length, map, refl, sym, ap, subst, ◌∙◌}
use Rattle.std.specs.Prelude.{nat_le, if◌then◌else◌, ok_or, is_some, codes}
use Rattle.std.specs.List.{AllByRecursion, list_all}
use Rattle.std.proofs.lemmas.Bool.{and_from}
use Rattle.ad_bytes.specs.Reading.{◌>>=◌, fault_as}
use Rattle.ad_ldif.specs.Lines.{Line, Block, blocks, lines_from}
use Rattle.ad_ldif.specs.Fields.{behind_colon}
use Rattle.ad_ldif.specs.Records.{Field, Entry, Fault, is_short, name_at, value_at, short_value_at}
use Rattle.ad_ldif.specs.Records.{is_changetype, field_at, from_dn, dn_at, fields_of, fields_behind, opening_of}
use Rattle.ad_ldif.specs.Records.{body_of, record_of as entry_at, fault}
use Rattle.ad_ldif.specs.declared.fault.LdifKind.TheVariants as kind
use Rattle.ad_ldif.specs.Story.{Story, told, story_of, story}
use Rattle.ad_schema.specs.declared.fault.SchemaFault.TheVariants as schema_fault
use Rattle.ad_schema.specs.declared.line.SchemaKind.{SchemaKind}
use Rattle.ad_schema.specs.declared.line.Line.{Line as SchemaLine}
use Rattle.ad_schema.specs.declared.line.SchemaRecord.{SchemaRecord}
use Rattle.ad_schema.specs.declared.line.SchemaKind.TheVariants.{Attribute}
use Rattle.ad_schema.specs.Attributes.{names_of}
use Rattle.ad_schema_classes.specs.Names.{place_of}
use Rattle.ad_schema.specs.Records.{checked, repeated, none_of, unknown, endless, added, finished}
use Rattle.ad_dn.specs.declared.rdn.Dn.{Dn}
use Rattle.ad_dn.specs.Reading.{dn_of}
use Rattle.ad_dir_model.specs.Limits.{max_text as max_value}
use Rattle.ad_dir_model.specs.Soundness.{is_short_record}
use Rattle.ad_load_records.specs.declared.fault.LoadCause.TheVariants as cause
use Rattle.ad_load_records.specs.Faults.{at, of_all, of_schema}
use Rattle.ad_load_records.specs.Records.{Record, kind_of, may_be_named, max_text, record_of, records_of, all_of}
use Rattle.ad_load_records.specs.Records.{records_in}
use Rattle.ad_load_records.specs.Schema.{line_of, added_if, all_added, schema_of}
use Rattle.ad_load_records.proofs.Inverting.{bind_ok, need_ok, load_is, schema_is, and_true}

abbrev IsShort : Field → Type 0
IsShort field = is_short field.value ≡ true

abbrev AreShort : List Field → Type 0
AreShort fields = AllByRecursion IsShort fields

-- ---- a text

value_short : (n : ℕ) (behind value : List ℕ) → short_value_at n behind ≡ Ok value → is_short value ≡ true
unfolding short_value_at
value_short n behind value e =
    let a = bind_ok (value_at n behind) _ value e in
    let b = need_ok (is_short a.0) (fault n kind.TooLong) _ value a.2 in
    let same : a.0 ≡ value = cc in
    ap is_short (sym same) ∙ b.0

field_short : (line : Line) (field : Field) → field_at line ≡ Ok field → IsShort field
unfolding field_at
field_short line field e =
    let a = bind_ok (name_at line) _ field e in
    let b = bind_ok (short_value_at line.number (behind_colon line.text)) _ field a.2 in
    let same : record { line = line.number; name = a.0; value = b.0 } ≡ field = cc in
    subst IsShort same (value_short line.number (behind_colon line.text) b.0 b.1)

fields_short : (lines : List Line) (fields : List Field) → fields_of lines ≡ Ok fields → AreShort fields
unfolding fields_of
fields_short [] fields e = let same : [] ≡ fields = cc in subst AreShort same tt
fields_short (line ∷ lines) fields e =
    let a = bind_ok (field_at line) _ fields e in
    let b = bind_ok (fields_of lines) _ fields a.2 in
    let same : a.0 ∷ b.0 ≡ fields = cc in
    subst AreShort same (field_short line a.0 a.1, fields_short lines b.0 b.1)

short_append : (xs ys : List Field) → AreShort xs → AreShort ys → AreShort (xs ++ ys)
short_append [] ys a b = b
short_append (x ∷ xs) ys a b = (a.0, short_append xs ys a.1 b)

opening_short : (line : Line) (fields : List Field) → opening_of line ≡ Ok fields → AreShort fields
unfolding opening_of
opening_short line fields e =
    let a = bind_ok (is_changetype line) _ fields e in
    by a.0 a.2
  where
    by : (test : Bool) → (if test then Ok [] else (field_at line >>= λ field. Ok (field ∷ []))) ≡ Ok fields
        → AreShort fields
    by true q = let same : [] ≡ fields = cc in subst AreShort same tt
    by false q =
        let b = bind_ok (field_at line) _ fields q in
        let same : b.0 ∷ [] ≡ fields = cc in
        subst AreShort same (field_short line b.0 b.1, tt)

body_short : (lines : List Line) (fields : List Field) → body_of lines ≡ Ok fields → AreShort fields
unfolding body_of fields_behind
body_short [] fields e = let same : [] ≡ fields = cc in subst AreShort same tt
body_short (line ∷ lines) fields e =
    let a = bind_ok (opening_of line) _ fields e in
    let b = bind_ok (fields_of lines) _ fields a.2 in
    let same : a.0 ++ b.0 ≡ fields = cc in
    subst AreShort same (short_append a.0 b.0 (opening_short line a.0 a.1) (fields_short lines b.0 b.1))

entry_short : (block : Block) (entry : Entry) → entry_at block ≡ Ok entry → AreShort entry.fields
unfolding entry_at
entry_short block entry e =
    let a = bind_ok (from_dn block.first block.others) _ entry e in
    let b = bind_ok (dn_at a.0.first) _ entry a.2 in
    let c = bind_ok (body_of a.0.others) _ entry b.2 in
    let same : record { line = a.0.first.number; dn = b.0; fields = c.0 } ≡ entry = cc in
    subst (λ (x : Entry). AreShort x.fields) same (body_short a.0.others c.0 c.1)

abbrev HasShort : Entry → Type 0
HasShort entry = AreShort entry.fields

told_short : (r : Result Entry Fault) (s : Story) → ((entry : Entry) → r ≡ Ok entry → HasShort entry)
    → AllByRecursion HasShort s.records → AllByRecursion HasShort (told r s).records
told_short (Ok entry) s one all = (one entry refl, all)
told_short (Err f) s one all = tt

story_short : (bs : List Block) → AllByRecursion HasShort (story_of bs).records
unfolding story_of
story_short [] = tt
story_short (b ∷ bs) = told_short (entry_at b) (story_of bs) (entry_short b) (story_short bs)

-- ---- the records

abbrev pub HasShortFields : Record → Type 0
HasShortFields r = AreShort r.fields

record_short : (entry : Entry) (r : Record) → HasShort entry → record_of entry ≡ Ok r → HasShortFields r
unfolding record_of
record_short entry r short e =
    let a = bind_ok (ok_or (dn_of entry.dn) (at entry.line cause.Dn)) _ r e in
    let dn : Dn = a.0 in
    let b = need_ok (may_be_named (kind_of entry.fields) dn.rdns) (at entry.line cause.Dn) _ r a.2 in
    let made : Record = record {
      line = entry.line;
      rdns = dn.rdns;
      kind = kind_of entry.fields;
      fields
          = entry.fields;
    } in
    subst HasShortFields (load_is made r b.1) short

records_short : (stop : Option Fault) (entries : List Entry) (rs : List Record) → AllByRecursion HasShort entries
    → records_of stop entries ≡ Ok rs → AllByRecursion HasShortFields rs
unfolding records_of
records_short None [] rs all e = let same : [] ≡ rs = cc in subst (AllByRecursion HasShortFields) same tt
records_short (Some f) [] rs all e = absurd cc
records_short stop (entry ∷ entries) rs all e =
    let a = bind_ok (record_of entry) _ rs e in
    let b = bind_ok (records_of stop entries) _ rs a.2 in
    let same : a.0 ∷ b.0 ≡ rs = cc in
    subst (AllByRecursion HasShortFields) same (
      record_short entry a.0 all.0 a.1,
      records_short stop entries b.0 all.1
          b.1,
    )

pub text_short : (text : List ℕ) (rs : List Record) → records_in text ≡ Ok rs → AllByRecursion HasShortFields rs
unfolding records_in story
text_short text rs e =
    let a = need_ok (nat_le (length text) max_text) (of_all cause.TooLong) (λ (u : Unit {0}). all_of (story text)) rs
    e in
    records_short (story text).stop (story text).records rs (story_short (blocks false (lines_from 1 text))) a.1

-- ---- the schema

lines_short : (fields : List Field) → AreShort fields
    → list_all (λ (line : SchemaLine). nat_le (length line.value) max_value) (map line_of fields) ≡ true
unfolding max_value
lines_short [] all = refl
lines_short (f ∷ fields) all = and_from _ _ all.0 (lines_short fields all.1)

short_more : (records : List SchemaRecord) (r : SchemaRecord) → list_all is_short_record records ≡ true
    → is_short_record r ≡ true → list_all is_short_record (records ++ r ∷ []) ≡ true
short_more [] r all one = and_from _ _ one refl
short_more (x ∷ xs) r all one =
    let parts = and_true (is_short_record x) (list_all is_short_record xs) all in
    and_from _ _ parts.0 (short_more xs r parts.1 one)

added_short : (records next : List SchemaRecord) (kind : SchemaKind) (fields : List Field) → AreShort fields
    → list_all is_short_record records ≡ true → added records kind (map line_of fields) ≡ Ok next
    → list_all is_short_record next ≡ true
unfolding added
added_short records next kind fields short all e =
    let a = bind_ok (checked kind (map line_of fields)) _ next e in
    let b = bind_ok (none_of schema_fault.Repeated (repeated records kind (map line_of fields))) _ next a.2 in
    let same : records ++ record { kind = kind; lines = map line_of fields } ∷ [] ≡ next = cc in
    subst (λ (rs : List SchemaRecord). list_all is_short_record rs ≡ true) same
    (short_more records (record { kind = kind; lines = map line_of fields }) all (lines_short fields short))

fault_as_ok : {A E F : Type 0} (name : E → F) (r : Result A E) (x : A) → fault_as name r ≡ Ok x → r ≡ Ok x
fault_as_ok name (Ok a) x e = cc
fault_as_ok name (Err f) x e = absurd cc

if_short : (schema next : List SchemaRecord) (line : ℕ) (kind : Option SchemaKind) (fields : List Field)
    → AreShort fields → list_all is_short_record schema ≡ true → added_if schema line kind fields ≡ Ok next
    → list_all is_short_record next ≡ true
if_short schema next line None fields short all e = let same : schema
    ≡ next = cc in subst (λ (rs : List SchemaRecord). list_all is_short_record rs ≡ true) same all
if_short schema next line (Some kind) fields short all e = added_short schema next kind fields short all
    (fault_as_ok (of_schema line) (added schema kind (map line_of fields)) next e)

all_short : (schema end : List SchemaRecord) (records : List Record) → AllByRecursion HasShortFields records
    → list_all is_short_record schema ≡ true → all_added schema records ≡ Ok end
    → list_all is_short_record end ≡ true
unfolding all_added
all_short schema end [] short all e = let same : schema ≡ end = cc
    in subst (λ (rs : List SchemaRecord). list_all is_short_record rs ≡ true) same all
all_short schema end (r ∷ records) short all e =
    let a = bind_ok (added_if schema r.line r.kind r.fields) _ end e in
    all_short a.0 end records short.1 (if_short schema a.0 r.line r.kind r.fields short.0 all a.1) a.2

finished_same : (schema end : List SchemaRecord) → finished schema ≡ Ok end → schema ≡ end
unfolding finished
finished_same schema end e =
    let a = bind_ok (none_of schema_fault.Unknown (unknown schema)) _ end e in
    let b = need_ok (is_some (place_of (names_of Attribute schema) (codes "cn"))) (schema_fault.Unknown (codes "cn"))
    _ end a.2 in
    let c = bind_ok (none_of schema_fault.Loop (endless schema)) _ end b.1 in
    schema_is schema end c.2

pub schema_short : (records : List Record) (schema : List SchemaRecord) → AllByRecursion HasShortFields records
    → schema_of records ≡ Ok schema → list_all is_short_record schema ≡ true
unfolding schema_of
schema_short records schema short e =
    let a = bind_ok (all_added [] records) _ schema e in
    let same : a.0 ≡ schema = finished_same a.0 schema (fault_as_ok (of_schema 0) (finished a.0) schema a.2) in
    subst (λ (rs : List SchemaRecord). list_all is_short_record rs ≡ true) same
    (all_short [] a.0 records short refl a.1)
