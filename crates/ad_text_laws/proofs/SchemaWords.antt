-- The names of a schema's attributes and classes are words, and so are the types of entries.
use Rattle.std.proofs.Common.{◌≡◌, ℕ, zero, suc, Bool, inl, inr, true, false, if◌then◌else◌, List, [], ◌∷◌, ◌++◌}
use Rattle.std.proofs.Common.{Option, Some, None, Result, Ok, Err, unwrap_or, refl, sym, subst, arith}
use Rattle.std.specs.Prelude.{slice_get, is_ok, not, nat_lt, ◌||◌, IfSome}
use Rattle.std.specs.Option.{option_or}
use Rattle.std.specs.List.{AllByRecursion, list_any, list_all}
use Rattle.std.proofs.lemmas.Bool.{cases_Bool, and_parts}
use Rattle.std.proofs.lemmas.Bool.Decides.{nat_tests}
use Rattle.std.proofs.lemmas.Option.{none-some}
use Rattle.ad_bytes.specs.Reading.{◌>>=◌}
use Rattle.ad_ids.specs.declared.guid.Guid.{Guid}
use Rattle.ad_ids.specs.Guid.{same_guid}
use Rattle.ad_ids.specs.GuidText.{guid_text}
use Rattle.ad_dn.specs.AttributeType.{IsType, is_type, is_type_byte, is_letter}
use Rattle.ad_schema.specs.declared.line.SchemaKind.{SchemaKind}
use Rattle.ad_schema.specs.declared.line.SchemaKind.TheVariants.{Attribute, Class, Right}
use Rattle.ad_schema.specs.declared.line.Line.{Line}
use Rattle.ad_schema.specs.declared.line.SchemaRecord.{SchemaRecord}
use Rattle.ad_schema.specs.declared.fault.SchemaFault.{SchemaFault}
use Rattle.ad_schema.specs.declared.field.Field.{Field}
use Rattle.ad_schema.specs.declared.field.Field.TheVariants as field
use Rattle.ad_schema.specs.declared.info.AttrInfo.{AttrInfo}
use Rattle.ad_schema.specs.declared.info.ClassInfo.{ClassInfo}
use Rattle.ad_schema.specs.declared.info.RightInfo.{RightInfo}
use Rattle.ad_schema.specs.Fields.{has, field_of, value_of, text_of, is_line_of}
use Rattle.ad_schema.specs.Faults.{missing, is_bad, bad_line, bad_behind, bad_value}
use Rattle.ad_schema.specs.Attributes.{lines_of, names_of, attrs_of, rights_of}
use Rattle.ad_schema.specs.Classes.{classes_of}
use Rattle.ad_schema.specs.Records.{none_of, checked, added}
use Rattle.ad_schema.specs.Sound.{all_added, MakeSchema}
use Rattle.ad_dir_model.specs.Shown as shown
use Rattle.ad_dir.proofs.SchemaNames.{type_at}
use Rattle.ad_dir.proofs.ShownLaws.{class_name_at}
use Rattle.ad_access_dir.specs.Labels.{is_title}
use Rattle.ad_dsacls.specs.Words.{class_name, attr_name, right_name, schema_name, type_name, type_text}
use Rattle.ad_text_laws.specs.Lines.{is_word}
use Rattle.ad_text_laws.proofs.LineLaws.{both}
use Rattle.ad_text_laws.proofs.EventLaws.{guid_word}
use Rattle.ad_text_laws.proofs.CodeWords.{titled_word}

-- ---- a type is a word

byte_word : (b : ℕ) → is_type_byte b ≡ true → nat_lt 32 b ≡ true
byte_word b is = grind (arith, nat_tests)

letter_word : (b : ℕ) → is_letter b ≡ true → nat_lt 32 b ≡ true
letter_word b is = grind (arith, nat_tests)

bytes_word : (bytes : List ℕ) → list_all is_type_byte bytes ≡ true → is_word bytes ≡ true
bytes_word [] e = refl
bytes_word (b ∷ bytes) e =
    let p = and_parts (is_type_byte b) (list_all is_type_byte bytes) e in
    both (nat_lt 32 b) (is_word bytes) (byte_word b p.0) (bytes_word bytes p.1)

type_is_word : (name : List ℕ) → IsType name → is_word name ≡ true
type_is_word [] is = refl
type_is_word (b ∷ bytes) is =
    let p = and_parts (is_letter b) (list_all is_type_byte bytes) is in
    both (nat_lt 32 b) (is_word bytes) (letter_word b p.0) (bytes_word bytes p.1)

-- ---- the record of a class

not_false : (b : Bool) → not b ≡ false → b ≡ true
not_false true e = refl
not_false false e = let bad : true ≡ false = e in absurd cc

or_left : (a b : Bool) → a || b ≡ false → a ≡ false
or_left true b e = absurd cc
or_left false b e = refl

first_none : (a b : Option Field) → option_or a b ≡ None → a ≡ None
first_none None b e = refl
first_none (Some x) b e = e

second_none : (a b : Option Field) → option_or a b ≡ None → b ≡ None
second_none None b e = e
second_none (Some x) b e = absurd (none-some x (sym e))

unwritten : (test : Bool) (f : Field) → (if test then Some f else None) ≡ None → test ≡ false
unwritten true f e = absurd (none-some f (sym e))
unwritten false f e = refl

-- the first display name is a type
first_reads : (before lines : List Line) → bad_behind Class before lines ≡ None
    → list_any (is_line_of field.DisplayName) lines ≡ true → is_type (text_of field.DisplayName lines) ≡ true
unfolding bad_behind bad_line is_bad field_of value_of
first_reads before [] good has_one = absurd cc
first_reads before (line ∷ lines) good has_one =
    elim (cases_Bool (is_line_of field.DisplayName line)) [
      | inl is ↦
          let none : bad_line Class before line ≡ None = first_none (bad_line Class before line)
          (bad_behind Class (before ++ line ∷ []) lines) good in
          let fine : (if is_bad before line.value field.DisplayName then Some field.DisplayName else None) ≡ None
          = rw is at none in
          let reads_it : is_type line.value ≡ true = not_false (is_type line.value)
          (or_left (not (is_type line.value)) _
          (unwritten (is_bad before line.value field.DisplayName) field.DisplayName fine)) in
          rw is reads_it
      | inr other ↦ rw other (first_reads (before ++ line ∷ []) lines
          (second_none (bad_line Class before line) (bad_behind Class (before ++ line ∷ []) lines) good)
          (rw other at has_one))
    ]

has_display : (lines : List Line) → missing Class lines ≡ None → list_any (is_line_of field.DisplayName) lines ≡ true
unfolding missing has
has_display lines none =
    elim (cases_Bool (list_any (is_line_of field.DisplayName) lines)) [
      | inl there ↦ there
      | inr absent ↦ absurd (none-some field.DisplayName (sym (rw absent at none)))
    ]

nothing : {A : Type 0} (name : A → SchemaFault) (o : Option A) → none_of name o ≡ Ok tt → o ≡ None
nothing name None e = refl
nothing name (Some x) e = absurd cc

first_ok : {A B : Type 0} (x : Result A SchemaFault) (f : A → Result B SchemaFault) → is_ok (x >>= f) ≡ true → is_ok x
    ≡ true
first_ok (Ok a) f e = refl
first_ok (Err fault) f e = e

second_ok : {B : Type 0} (x : Result (Unit {0}) SchemaFault) (f : Unit {0} → Result B SchemaFault) → is_ok (x >>= f)
    ≡ true → is_ok (f tt) ≡ true
second_ok (Ok a) f e = e
second_ok (Err fault) f e = absurd cc

ok_is : (x : Result (Unit {0}) SchemaFault) → is_ok x ≡ true → x ≡ Ok tt
ok_is (Ok a) e = refl
ok_is (Err fault) e = absurd cc

class_is_type : (records : List SchemaRecord) (lines : List Line) → is_ok (added records Class lines) ≡ true
    → IsType (text_of field.DisplayName lines)
unfolding added checked bad_value
class_is_type records lines ok =
    let good = first_ok (checked Class lines) _ ok in
    let absent = nothing _ (missing Class lines) (ok_is _ (first_ok (none_of _ (missing Class lines)) _ good)) in
    let fine = nothing _ (bad_value Class lines)
    (ok_is _ (second_ok (none_of _ (missing Class lines)) _ good)) in
    first_reads [] lines fine (has_display lines absent)

classes_after : (before records : List SchemaRecord) → all_added before records ≡ true
    → AllByRecursion IsType (names_of Class records)
unfolding all_added names_of lines_of
classes_after before [] added_all = tt
classes_after before (r ∷ records) added_all =
    let parts = and_parts (is_ok (added before r.kind r.lines)) (all_added (before ++ r ∷ []) records) added_all in
    by_kind r.kind parts.0 (classes_after (before ++ r ∷ []) records parts.1)
  where
    by_kind : (kind : SchemaKind) → is_ok (added before kind r.lines) ≡ true
        → AllByRecursion IsType (names_of Class records)
        → AllByRecursion IsType (names_of Class (record r { kind = kind } ∷ records))
    by_kind Attribute ok rest = rest
    by_kind Class ok rest = (class_is_type before r.lines ok, rest)
    by_kind Right ok rest = rest

-- ---- all of them

pub record HasWordNames (schema : List SchemaRecord) : Type 0 where
  pub attrs : (place : ℕ) → IfSome (slice_get (attrs_of schema) place) (λ (a : AttrInfo). is_word a.name ≡ true)
  pub classes : (place : ℕ) → IfSome (slice_get (classes_of schema) place) (λ (c : ClassInfo). is_word c.name ≡ true)

word_at : (names : List (List ℕ)) (place : ℕ) → AllByRecursion IsType names
    → is_word (unwrap_or (slice_get names place) []) ≡ true
word_at [] place all = refl
word_at (name ∷ names) zero all = type_is_word name all.0
word_at (name ∷ names) (suc place) all = word_at names place all.1

class_has : (schema : List SchemaRecord) → MakeSchema schema → (place : ℕ)
    → is_word (shown.class_name schema place) ≡ true
unfolding shown.class_name
class_has schema makes place = word_at (names_of Class schema) place (classes_after [] schema makes.added.added)

pub names_are_words : (schema : List SchemaRecord) → MakeSchema schema → HasWordNames schema
names_are_words schema makes = record {
  attrs = λ place. attr place (slice_get (attrs_of schema) place) refl;
  classes = λ place. class place (slice_get (classes_of schema) place) refl;
}
  where
    attr : (place : ℕ) (found : Option AttrInfo) → slice_get (attrs_of schema) place ≡ found
        → IfSome found (λ (a : AttrInfo). is_word a.name ≡ true)
    attr place None e = tt
    attr place (Some a) e = type_is_word a.name (type_at schema place a makes e)

    class : (place : ℕ) (found : Option ClassInfo) → slice_get (classes_of schema) place ≡ found
        → IfSome found (λ (c : ClassInfo). is_word c.name ≡ true)
    class place None e = tt
    class place (Some c) e = subst (λ (name : List ℕ). is_word name ≡ true) (sym (class_name_at schema place c e))
        (class_has schema makes place)

-- ---- types of entries

all_places : {A : Type 0} (Is : A → Type 0) (xs : List A) → ((place : ℕ) → IfSome (slice_get xs place) Is)
    → AllByRecursion Is xs
all_places Is [] each = tt
all_places Is (x ∷ xs) each = (each 0, all_places Is xs (λ place. each (suc place)))

either_of : (t : Bool) (a b : Option (List ℕ)) → IfSome a (λ (name : List ℕ). is_word name ≡ true)
    → IfSome b (λ (name : List ℕ). is_word name ≡ true)
    → IfSome (if t then a else b) (λ (name : List ℕ). is_word name ≡ true)
either_of true a b p q = p
either_of false a b p q = q

either_word : (t : Bool) (name : List ℕ) (rest : Option (List ℕ)) → is_word name ≡ true
    → IfSome rest (λ (n : List ℕ). is_word n ≡ true)
    → IfSome (if t then Some name else rest) (λ (n : List ℕ). is_word n ≡ true)
either_word t name rest e q = either_of t (Some name) rest e q

class_word : (classes : List ClassInfo) (guid : Guid) → AllByRecursion (λ (c : ClassInfo). is_word c.name ≡ true) classes
    → IfSome (class_name classes guid) (λ (name : List ℕ). is_word name ≡ true)
unfolding class_name
class_word [] guid all = tt
class_word (c ∷ classes) guid all = either_word (same_guid c.guid guid) c.name (class_name classes guid) all.0
    (class_word classes guid all.1)

attr_word : (attrs : List AttrInfo) (guid : Guid) → AllByRecursion (λ (a : AttrInfo). is_word a.name ≡ true) attrs
    → IfSome (attr_name attrs guid) (λ (name : List ℕ). is_word name ≡ true)
unfolding attr_name
attr_word [] guid all = tt
attr_word (a ∷ attrs) guid all = either_word (same_guid a.guid guid) a.name (attr_name attrs guid) all.0
    (attr_word attrs guid all.1)

right_word : (rights : List RightInfo) (guid : Guid)
    → IfSome (right_name rights guid) (λ (name : List ℕ). is_word name ≡ true)
unfolding right_name
right_word [] guid = tt
right_word (r ∷ rights) guid = either_of (same_guid r.guid guid) (if is_title r.name then Some r.name else None)
    (right_name rights guid) (own (is_title r.name) refl) (right_word rights guid)
  where
    own : (titled : Bool) → is_title r.name ≡ titled
        → IfSome (if titled then Some r.name else None) (λ (name : List ℕ). is_word name ≡ true)
    own true e = titled_word r.name e
    own false e = tt

first_word : (a b : Option (List ℕ)) → IfSome a (λ (name : List ℕ). is_word name ≡ true)
    → IfSome b (λ (name : List ℕ). is_word name ≡ true)
    → IfSome (option_or a b) (λ (name : List ℕ). is_word name ≡ true)
first_word None b p q = q
first_word (Some name) b p q = p

or_guid : (name : Option (List ℕ)) (guid : Guid) → IfSome name (λ (n : List ℕ). is_word n ≡ true)
    → is_word (unwrap_or name (guid_text guid)) ≡ true
or_guid None guid p = guid_word guid
or_guid (Some name) guid p = p

pub type_word : (schema : List SchemaRecord) → MakeSchema schema → (guid : Option Guid)
    → is_word (type_text schema guid) ≡ true
unfolding type_name
type_word schema makes None = refl
type_word schema makes (Some guid) =
    let names = names_are_words schema makes in
    or_guid (schema_name schema guid) guid
    (first_word (class_name (classes_of schema) guid) _
    (class_word (classes_of schema) guid (all_places (λ (c : ClassInfo). is_word c.name ≡ true) (classes_of schema) names.classes))
    (first_word (attr_name (attrs_of schema) guid) _
    (attr_word (attrs_of schema) guid (all_places (λ (a : AttrInfo). is_word a.name ≡ true) (attrs_of schema) names.attrs))
    (right_word (rights_of schema) guid)))
