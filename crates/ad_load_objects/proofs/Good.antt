-- What is known of a draft that was made of a good record, after those before it.
use Rattle.std.proofs.Common.{map, ◌≡◌, ◌⊎◌, inl, inr, ℕ, ◌<◌, ◌≤◌, Bool, true, false, Option, Some, None, Result, Ok}
use Rattle.std.proofs.Common.{List, [], ◌∷◌, ◌++◌, length, take, refl, sym, ap, subst, ◌∙◌, arith}
use Rattle.std.specs.Prelude.{slice_get, codes, not, ◌==◌, ◌&&◌, if◌then◌else◌, is_none, ok_or}
use Rattle.std.specs.Option.{option_map, option_map_or, option_and_then}
use Rattle.std.specs.List.{AllByRecursion, list_any}
use Rattle.std.proofs.lemmas.Bool.{cases_Bool, eqb-true, eqb-false, eq-eqb, ne_eqb}
use Rattle.sha2.specs.Sha256.{sha256}
use Rattle.sha2.proofs.Facts256.{length-sha256}
use Rattle.ad_bytes.specs.Reading.{◌>>=◌, need, or_fault, IsBytes}
use Rattle.ad_ids.specs.SidValue.{SidValue}
use Rattle.ad_dn.specs.declared.rdn.Rdn.{Rdn}
use Rattle.ad_dn.specs.Value.{AreRdns}
use Rattle.ad_ldif.specs.Records.{Field}
use Rattle.ad_sd.specs.declared.parts.Sd.{Sd}
use Rattle.ad_sd.specs.Reading.{sd_of}
use Rattle.ad_value.specs.declared.syntax.Syntax.{Syntax}
use Rattle.ad_value.specs.Value.{Value, as_shown}
use Rattle.ad_value.specs.ValueOf.{normal_or_fault, sid_of}
use Rattle.ad_schema_classes.specs.Names.{place_of, same_name}
use Rattle.ad_schema.specs.declared.line.SchemaKind.TheVariants.{Attribute}
use Rattle.ad_schema.specs.declared.line.SchemaRecord.{SchemaRecord}
use Rattle.ad_schema.specs.declared.info.AttrId.{AttrId}
use Rattle.ad_schema.specs.declared.info.ClassId.{ClassId}
use Rattle.ad_schema.specs.declared.info.ClassInfo.{ClassInfo}
use Rattle.ad_schema.specs.Attributes.{names_of, attrs_of, attr_named}
use Rattle.ad_schema.specs.Classes.{classes_of, naming_of}
use Rattle.ad_schema.proofs.LookupLemmas.{attr_within}
use Rattle.ad_dir_model.specs.Attributes.{attr_place, attr_name, is_named, syntax_at, object_sid}
use Rattle.ad_dir_model.specs.Soundness.{IsValueBy, IsPlainValue}
use Rattle.ad_load_records.specs.declared.fault.LoadFault.{LoadFault}
use Rattle.ad_load_records.specs.declared.fault.LoadCause.TheVariants as cause
use Rattle.ad_load_records.specs.Faults.{at}
use Rattle.ad_load_objects.specs.Through.{through}
use Rattle.ad_load_records.specs.Records.{Record}
use Rattle.ad_load_records.specs.Good.{HasBytes, IsGoodRecord, ReadsBack}
use Rattle.ad_load_objects.specs.Drafts.{Given, Draft, naming_value, is_given, first_given, draft_sid}
use Rattle.ad_load_objects.specs.Objects.{DraftValues, nothing_kept, parent_of, is_taken, is_named_by, classes_named}
use Rattle.ad_load_objects.specs.Objects.{class_of, is_sid_used, is_sid_taken}
use Rattle.ad_schema_defaults.specs.NewClass.{is_structural, lowest_of}
use Rattle.ad_load_objects.specs.Objects.{is_one_too_many, value_of, is_dropped, with_value, with_sd, with_ordinary}
use Rattle.ad_load_objects.specs.Objects.{with_line, with_lines, draft_of, is_object, with_record}
use Rattle.ad_load_objects.proofs.Through.{keeps_through}
use Rattle.ad_load_records.proofs.Inverting.{bind_ok, need_ok, ok_or_ok, or_fault_ok, load_is, not_true}
use Rattle.ad_load_objects.proofs.Places.{within, front_or_end, take_front, take_whole, all_more}

pub record IsGoodGiven (schema : List SchemaRecord) (g : Given) : Type 0 where
  pub attr : g.attr < length (attrs_of schema)
  pub plain : IsPlainValue schema g.attr g.value

pub record IsGoodDraft (schema : List SchemaRecord) (before : List Draft) (d : Draft) : Type 0 where
  pub rdns : AreRdns d.rdns
  pub some : 0 < length d.rdns
  pub class : d.class < length (classes_of schema)
  pub given : AllByRecursion (IsGoodGiven schema) d.given
  pub parent : parent_of before d.rdns ≡ Some d.parent
  pub own_name : is_taken before d.parent (naming_value d.rdns) ≡ false
  pub own_sid : is_sid_used schema before (draft_sid schema d) ≡ false

abbrev pub AreGood : List SchemaRecord → List Draft → Type 0
AreGood schema drafts = (i : ℕ) (d : Draft) → slice_get drafts i ≡ Some d → IsGoodDraft schema (take i drafts) d

-- ---- one value

plain_by : ReadsBack → (password : Bool) (s : Syntax) (bytes : List ℕ) (v : Value) (f : LoadFault) → IsBytes bytes
    → (if password then Ok (as_shown (sha256 bytes)) else or_fault f (normal_or_fault s bytes)) ≡ Ok v
    → IsValueBy password s v
plain_by reads true s bytes v f are e =
    let same : as_shown (sha256 bytes) ≡ v = cc in
    subst (λ (w : Value). (length w.shown ≡ 32) × (w ≡ as_shown w.shown)) same (length-sha256 bytes, refl)
plain_by reads false s bytes v f are e = reads s bytes v are (or_fault_ok (normal_or_fault s bytes) f v e)

value_plain : ReadsBack → (schema : List SchemaRecord) (attr : ℕ) (field : Field) (v : Value) → HasBytes field
    → value_of schema attr field ≡ Ok v → IsPlainValue schema attr v
unfolding value_of
value_plain reads schema attr field v are e = plain_by reads (is_named schema (codes "unicodePwd") attr)
    (syntax_at schema attr) field.value v (at field.line (cause.Value field.name)) are e

place_in : (schema : List SchemaRecord) (name : List ℕ) (attr : ℕ) → attr_place schema name ≡ Some attr → attr
    < length (attrs_of schema)
unfolding attr_named
place_in schema name attr e = by (place_of (names_of Attribute schema) name) refl e where
  by : (found : Option ℕ) → place_of (names_of Attribute schema) name ≡ found
      → option_map (λ (id : AttrId). id.0) (option_map (λ n. record { 0 = n }) found) ≡ Some attr
      → attr < length (attrs_of schema)
  by None is q = absurd cc
  by (Some n) is q =
      let same : n ≡ attr = cc in
      attr_within schema (names_of Attribute schema) name attr refl (is ∙ ap (λ (k : ℕ). Some k) same)

-- ---- the identifier among the values

abbrev pub given_sid : List SchemaRecord → List Given → Option SidValue
given_sid schema given = option_and_then (λ value. sid_of value.shown)
    (option_and_then (first_given given) (object_sid schema))

-- the first of one value more
first_more : (given : List Given) (g : Given) (attr : ℕ)
    → ((list_any (is_given attr) given ≡ true) × (first_given (given ++ g ∷ []) attr ≡ first_given given attr))
    ⊎ ((list_any (is_given attr) given ≡ false) × (first_given given attr ≡ None)
    × (first_given (given ++ g ∷ []) attr ≡ (if g.attr == attr then Some g.value else None)))
unfolding first_given
first_more [] g attr = elim (cases_Bool (g.attr == attr)) [
  | inl same ↦ inr (refl, refl, rw same refl)
  | inr differ ↦ inr (refl, refl, rw differ refl)
]
first_more (x ∷ xs) g attr = elim (cases_Bool (x.attr == attr)) [
  | inl same ↦ inl (rw same refl, rw same refl)
  | inr differ ↦ elim (first_more xs g attr) [
    | inl h ↦ inl (rw differ h.0, rw differ h.1)
    | inr h ↦ inr (rw differ h.0, rw differ h.1, rw differ h.2)
  ]
]

abbrev used_by : List SchemaRecord → List Draft → List Given → Option ℕ → Bool
used_by schema drafts given place = is_sid_used schema drafts
    (option_and_then (λ value. sid_of value.shown) (option_and_then (first_given given) place))

taken_false : (here any used : Bool) → (here && not any && used) ≡ false → here ≡ true → any ≡ false → used ≡ false
taken_false true false used e p q = e
taken_false true true used e p q = absurd cc
taken_false false any used e p q = absurd cc

unused_more : (schema : List SchemaRecord) (drafts : List Draft) (given : List Given) (g : Given) (place : Option ℕ)
    → used_by schema drafts given place ≡ false
    → (option_map_or (λ (p : ℕ). p == g.attr) place false && not (list_any (is_given g.attr) given)
    && is_sid_used schema drafts (sid_of g.value.shown)) ≡ false
    → used_by schema drafts (given ++ g ∷ []) place ≡ false
unfolding is_sid_used
unused_more schema drafts given g None before taken = refl
unused_more schema drafts given g (Some p) before taken = elim (first_more given g p) [
  | inl h ↦ ap (λ (v : Option Value). is_sid_used schema drafts
      (option_and_then (λ (value : Value). sid_of value.shown) v)) h.1 ∙ before
  | inr h ↦ elim (cases_Bool (p == g.attr)) [
    | inl same ↦
        let e : p ≡ g.attr = eqb-true p g.attr same in
        let t : (g.attr == p) ≡ true = eq-eqb g.attr p (sym e) in
        let none : list_any (is_given g.attr) given ≡ false = subst (λ (k : ℕ). list_any (is_given k) given ≡ false) e
        h.0 in
        let unused : is_sid_used schema drafts (sid_of g.value.shown)
        ≡ false = taken_false (p == g.attr) (list_any (is_given g.attr) given)
        (is_sid_used schema drafts (sid_of g.value.shown)) taken same none in
        ap (λ (v : Option Value). is_sid_used schema drafts
        (option_and_then (λ (value : Value). sid_of value.shown) v)) (h.2
        ∙ ap (λ (b : Bool). if b then Some g.value else None) t) ∙ unused
    | inr differ ↦
        let t : (g.attr == p) ≡ false = ne_eqb g.attr p (λ e. eqb-false p g.attr differ (sym e)) in
        ap (λ (v : Option Value). is_sid_used schema drafts
        (option_and_then (λ (value : Value). sid_of value.shown) v)) (h.2
        ∙ ap (λ (b : Bool). if b then Some g.value else None) t)
  ]
]

-- ---- the lines of one object

-- what was kept is good
pub record IsGoodKept (schema : List SchemaRecord) (drafts : List Draft) (kept : DraftValues) : Type 0 where
  pub given : AllByRecursion (IsGoodGiven schema) kept.given
  pub sid : used_by schema drafts kept.given (object_sid schema) ≡ false

taken_free : (schema : List SchemaRecord) (drafts : List Draft) (given : List Given) (g : Given)
    → used_by schema drafts given (object_sid schema) ≡ false
    → is_sid_taken schema drafts given g.attr g.value ≡ false
    → used_by schema drafts (given ++ g ∷ []) (object_sid schema) ≡ false
unfolding is_sid_taken
taken_free schema drafts given g before free = unused_more schema drafts given g (object_sid schema) before free

value_good : ReadsBack → (schema : List SchemaRecord) (drafts : List Draft) (kept next : DraftValues) (attr : ℕ)
    (field : Field) → attr < length (attrs_of schema) → HasBytes field → IsGoodKept schema drafts kept
    → with_value schema drafts kept attr field ≡ Ok next → IsGoodKept schema drafts next
unfolding with_value
value_good reads schema drafts kept next attr field lt are good e =
    let a = bind_ok (value_of schema attr field) _ next e in
    let v : Value = a.0 in
    let g : Given = record { line = field.line; spelled = field.name; attr = attr; value = v } in
    let made : DraftValues = record { given = kept.given ++ g ∷ []; sd = kept.sd } in
    let last : Unit {0} → Result DraftValues LoadFault = λ (u : Unit {0}). Ok made in
    let others : Unit {0} → Result DraftValues LoadFault = λ (u : Unit {0}). need
    (not (is_sid_taken schema drafts kept.given attr v)) (at field.line cause.Sid) >>= last in
    let b = need_ok (not (is_one_too_many schema kept.given attr v)) (at field.line (cause.Value field.name)) others
    next a.2 in
    let c = need_ok (not (is_sid_taken schema drafts kept.given attr v)) (at field.line cause.Sid) last next b.1 in
    let free : is_sid_taken schema drafts kept.given attr v ≡ false
    = not_true (is_sid_taken schema drafts kept.given attr v) c.0 in
    subst (IsGoodKept schema drafts) (load_is made next c.1) (record {
      given = all_more (IsGoodGiven schema) kept.given g good.given
          (record { attr = lt; plain = value_plain reads schema attr field v are a.1 });
      sid = taken_free schema drafts kept.given g good.sid free;
    })

sd_good : (schema : List SchemaRecord) (drafts : List Draft) (kept next : DraftValues) (field : Field)
    → IsGoodKept schema drafts kept → with_sd kept field ≡ Ok next → IsGoodKept schema drafts next
unfolding with_sd
sd_good schema drafts kept next field good e =
    let others : Unit {0} → Result DraftValues LoadFault = λ (u : Unit {0}). or_fault (at field.line cause.Descriptor)
    (sd_of field.value) >>= λ (sd : Sd). Ok (record { given = kept.given; sd = Some sd }) in
    let a = need_ok (is_none kept.sd) (at field.line cause.Descriptor) others next e in
    let b = bind_ok (or_fault (at field.line cause.Descriptor) (sd_of field.value))
    (λ (sd : Sd). Ok (record { given = kept.given; sd = Some sd })) next a.1 in
    let made : DraftValues = record { given = kept.given; sd = Some b.0 } in
    subst (IsGoodKept schema drafts) (load_is made next b.2) (record { given = good.given; sid = good.sid })

ordinary_good : ReadsBack → (schema : List SchemaRecord) (drafts : List Draft) (class : ℕ) (kept next : DraftValues)
    (field : Field) → HasBytes field → IsGoodKept schema drafts kept
    → with_ordinary schema drafts class kept field ≡ Ok next → IsGoodKept schema drafts next
unfolding with_ordinary
ordinary_good reads schema drafts class kept next field are good e =
    let a = bind_ok (ok_or (attr_place schema field.name) (at field.line (cause.Attribute field.name))) _ next e in
    let attr : ℕ = a.0 in
    let lt = place_in schema field.name attr
    (ok_or_ok (attr_place schema field.name) (at field.line (cause.Attribute field.name)) attr a.1) in
    by (is_dropped schema class attr field.name) attr lt a.2
  where
    by : (dropped : Bool) (attr : ℕ) → attr < length (attrs_of schema)
        → (if dropped then Ok kept else with_value schema drafts kept attr field) ≡ Ok next
        → IsGoodKept schema drafts next
    by true attr lt q = let same : kept ≡ next = cc in subst (IsGoodKept schema drafts) same good
    by false attr lt q = value_good reads schema drafts kept next attr field lt are good q

line_good : ReadsBack → (schema : List SchemaRecord) (drafts : List Draft) (class : ℕ) (kept next : DraftValues)
    (field : Field) → IsGoodKept schema drafts kept → HasBytes field
    → with_line schema drafts class kept field ≡ Ok next → IsGoodKept schema drafts next
unfolding with_line
line_good reads schema drafts class kept next field good are e =
    by (same_name field.name (codes "nTSecurityDescriptor")) e
  where
    by : (test : Bool) → (if test then with_sd kept field else with_ordinary schema drafts class kept field) ≡ Ok next
        → IsGoodKept schema drafts next
    by true q = sd_good schema drafts kept next field good q
    by false q = ordinary_good reads schema drafts class kept next field are good q

nothing_good : (schema : List SchemaRecord) (drafts : List Draft) → IsGoodKept schema drafts nothing_kept
unfolding first_given is_sid_used
nothing_good schema drafts = record { given = tt; sid = none (object_sid schema) }
  where
    none : (place : Option ℕ) → used_by schema drafts [] place ≡ false
    none None = refl
    none (Some p) = refl

lines_good : ReadsBack → (schema : List SchemaRecord) (drafts : List Draft) (class : ℕ) (fields : List Field)
    (kept : DraftValues) → AllByRecursion HasBytes fields → with_lines schema drafts class fields ≡ Ok kept
    → IsGoodKept schema drafts kept
unfolding with_lines
lines_good reads schema drafts class fields kept are e =
    keeps_through (with_line schema drafts class) (IsGoodKept schema drafts) HasBytes
    (line_good reads schema drafts class) nothing_kept kept fields (nothing_good schema drafts) are e

-- ---- one object

structural_in : (schema : List SchemaRecord) (class : ℕ) → is_structural schema class ≡ true → class
    < length (classes_of schema)
unfolding is_structural
structural_in schema class e = by (slice_get (classes_of schema) class) refl e where
  by : (found : Option ClassInfo) → slice_get (classes_of schema) class ≡ found
      → option_map_or (λ (info : ClassInfo). not (info.category == 2) && not (info.category == 3)) found false
      ≡ true → class < length (classes_of schema)
  by None is q = absurd cc
  by (Some info) is q = within (classes_of schema) class info is

class_in : (schema : List SchemaRecord) (line : ℕ) (fields : List Field) (class : ClassId)
    → class_of schema line fields ≡ Ok class → class.0 < length (classes_of schema)
unfolding class_of
class_in schema line fields class e =
    let a = bind_ok (classes_named schema line fields) _ class e in
    let b = bind_ok (ok_or (lowest_of schema (map (λ (id : ClassId). id.0) a.0)) (at line cause.Class)) _ class a.2 in
    let c = need_ok (is_structural schema b.0) (at line cause.Class) _ class b.2 in
    let of : ℕ → ClassId = λ n. record { 0 = n } in
    let same : of b.0 ≡ class = cc in
    subst (λ (k : ClassId). k.0 < length (classes_of schema)) same (structural_in schema b.0 c.0)

named_some : (attr : List ℕ) (rdns : List Rdn) → is_named_by attr rdns ≡ true → 0 < length rdns
named_some attr [] e = absurd cc
named_some attr (rdn ∷ rdns) e = omega arith

pub draft_good : ReadsBack → (schema : List SchemaRecord) (drafts : List Draft) (r : Record) (d : Draft)
    → IsGoodRecord r → draft_of schema drafts r ≡ Ok d → IsGoodDraft schema drafts d
unfolding draft_of draft_sid
draft_good reads schema drafts r d good e =
    let a = bind_ok (ok_or (parent_of drafts r.rdns) (at r.line cause.Parent)) _ d e in
    let parent : ℕ = a.0 in
    let b = bind_ok (class_of schema r.line r.fields) _ d a.2 in
    let class : ClassId = b.0 in
    let c = need_ok (is_named_by (attr_name schema (naming_of schema class.0)) r.rdns) (at r.line cause.Naming) _ d
    b.2 in
    let f = need_ok (not (is_taken drafts parent (naming_value r.rdns))) (at r.line cause.NameTaken) _ d c.1 in
    let g = bind_ok (with_lines schema drafts class.0 r.fields) _ d f.1 in
    let kept : DraftValues = g.0 in
    let lines = lines_good reads schema drafts class.0 r.fields kept good.bytes g.1 in
    let made : Draft = record { rdns = r.rdns; parent = parent; class = class.0; given = kept.given; sd = kept.sd } in
    subst (IsGoodDraft schema drafts) (load_is made d g.2) (record {
      rdns = good.rdns;
      some = named_some (attr_name schema (naming_of schema class.0)) r.rdns c.0;
      class = class_in schema r.line r.fields class b.1;
      given = lines.given;
      parent = ok_or_ok (parent_of drafts r.rdns) (at r.line cause.Parent) parent a.1;
      own_name = not_true (is_taken drafts parent (naming_value r.rdns)) f.0;
      own_sid = lines.sid;
    })

-- ---- all objects

good_more : (schema : List SchemaRecord) (drafts : List Draft) (d : Draft) → AreGood schema drafts
    → IsGoodDraft schema drafts d → AreGood schema (drafts ++ d ∷ [])
good_more schema drafts d good one = λ i x is. elim (front_or_end drafts d i x is) [
  | inl there ↦
      let lt : i < length drafts = within drafts i x there in
      subst (λ (before : List Draft). IsGoodDraft schema before x) (sym (take_front drafts d i (omega arith)))
      (good i x there)
  | inr end ↦
      let le : length drafts ≤ length drafts = omega arith in
      let before : take i (drafts ++ d ∷ []) ≡ drafts = ap (λ (n : ℕ). take n (drafts ++ d ∷ [])) end.0
      ∙ take_front drafts d (length drafts) le ∙ take_whole drafts in
      subst (λ (bs : List Draft). IsGoodDraft schema bs x) (sym before) (subst (IsGoodDraft schema drafts) end.1 one)
]

record_good : ReadsBack → (schema : List SchemaRecord) (drafts next : List Draft) (r : Record)
    → AreGood schema drafts → IsGoodRecord r → with_record schema drafts r ≡ Ok next → AreGood schema next
unfolding with_record
record_good reads schema drafts next r good one e = by (is_object r) e
  where
    by : (test : Bool) → (if test then (draft_of schema drafts r >>= λ draft. Ok (drafts ++ draft ∷ []))
        else Ok drafts) ≡ Ok next → AreGood schema next
    by true q =
        let a = bind_ok (draft_of schema drafts r) _ next q in
        let same : drafts ++ a.0 ∷ [] ≡ next = cc in
        subst (AreGood schema) same (good_more schema drafts a.0 good (draft_good reads schema drafts r a.0 one a.1))
    by false q = let same : drafts ≡ next = cc in subst (AreGood schema) same good

none_good : (schema : List SchemaRecord) → AreGood schema []
none_good schema = λ i d is. absurd cc

pub all_good : ReadsBack → (schema : List SchemaRecord) (records : List Record) (drafts : List Draft)
    → AllByRecursion IsGoodRecord records → through (with_record schema) [] records ≡ Ok drafts
    → AreGood schema drafts
all_good reads schema records drafts are e = keeps_through (with_record schema) (AreGood schema) IsGoodRecord
    (record_good reads schema) [] drafts records (none_good schema) are e
