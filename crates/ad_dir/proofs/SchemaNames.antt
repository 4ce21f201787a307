-- The names of a schema's attributes are types of names' parts.
use Rattle.std.proofs.Common.{◌≡◌, ℕ, zero, suc, Bool, inl, inr, true, false, List, [], ◌∷◌, ◌++◌}
use Rattle.std.proofs.Common.{Option, Some, None, Result, Ok, Err, refl, sym, subst}
use Rattle.std.proofs.Common.{if◌then◌else◌}
use Rattle.std.specs.Prelude.{slice_get, is_ok, not, ◌||◌}
use Rattle.std.specs.Option.{option_or}
use Rattle.std.specs.List.{AllByRecursion, list_any}
use Rattle.std.proofs.lemmas.Bool.{cases_Bool, and_parts}
use Rattle.std.proofs.lemmas.Option.{none-some, same_Some}
use Rattle.ad_bytes.specs.Reading.{◌>>=◌}
use Rattle.ad_dn.specs.AttributeType.{IsType, is_type}
use Rattle.ad_schema.specs.declared.line.SchemaKind.{SchemaKind}
use Rattle.ad_schema.specs.declared.line.SchemaKind.TheVariants.{Attribute, Class, Right}
use Rattle.ad_schema.specs.declared.line.Line.{Line}
use Rattle.ad_schema.specs.declared.line.SchemaRecord.{SchemaRecord}
use Rattle.ad_schema.specs.declared.fault.SchemaFault.{SchemaFault}
use Rattle.ad_schema.specs.declared.field.Field.{Field}
use Rattle.ad_schema.specs.declared.field.Field.TheVariants as field
use Rattle.ad_schema.specs.declared.info.AttrInfo.{AttrInfo}
use Rattle.ad_schema.specs.Fields.{has, field_of, value_of, text_of, is_line_of}
use Rattle.ad_schema.specs.Faults.{missing, is_bad, bad_line, bad_behind, bad_value}
use Rattle.ad_schema.specs.Attributes.{lines_of, names_of, attrs_of}
use Rattle.ad_schema.specs.Records.{none_of, checked, added}
use Rattle.ad_schema.specs.Sound.{all_added, MakeSchema}
use Rattle.ad_dir_objects.proofs.AttrNames.{named_at}

-- ---- one record

not_false : (b : Bool) → not b ≡ false → b ≡ true
not_false true e = refl
not_false false e = let bad : true ≡ false = e in absurd cc

or_left : (a b : Bool) → a || b ≡ false → a ≡ false
or_left true b e = absurd cc
or_left false b e = refl

first_none : (a b : Option Field) → option_or a b ≡ None → a ≡ None
first_none None b e = refl
first_none (Some x) b e = e

second_none : (a b : Option Field) → option_or a b ≡ None → b ≡ None
second_none None b e = e
second_none (Some x) b e = absurd (none-some x (sym e))

unwritten : (test : Bool) (f : Field) → (if test then Some f else None) ≡ None → test ≡ false
unwritten true f e = absurd (none-some f (sym e))
unwritten false f e = refl

-- the first display name is a type
first_reads : (before lines : List Line) → bad_behind Attribute before lines ≡ None
    → list_any (is_line_of field.DisplayName) lines ≡ true → is_type (text_of field.DisplayName lines) ≡ true
unfolding bad_behind bad_line is_bad field_of value_of
first_reads before [] good has_one = absurd cc
first_reads before (line ∷ lines) good has_one =
    elim (cases_Bool (is_line_of field.DisplayName line)) [
      | inl is ↦
          let none : bad_line Attribute before line ≡ None = first_none (bad_line Attribute before line)
          (bad_behind Attribute (before ++ line ∷ []) lines) good in
          let fine : (if is_bad before line.value field.DisplayName then Some field.DisplayName else None) ≡ None
          = rw is at none in
          let reads_it : is_type line.value ≡ true = not_false (is_type line.value)
          (or_left (not (is_type line.value)) _
          (unwritten (is_bad before line.value field.DisplayName) field.DisplayName fine)) in
          rw is reads_it
      | inr other ↦ rw other (first_reads (before ++ line ∷ []) lines
          (second_none (bad_line Attribute before line) (bad_behind Attribute (before ++ line ∷ []) lines) good)
          (rw other at has_one))
    ]

has_display : (lines : List Line) → missing Attribute lines ≡ None → list_any (is_line_of field.DisplayName) lines
    ≡ true
unfolding missing has
has_display lines none =
    elim (cases_Bool (list_any (is_line_of field.DisplayName) lines)) [
      | inl there ↦ there
      | inr absent ↦ absurd (none-some field.DisplayName (sym (rw absent at none)))
    ]

nothing : {A : Type 0} (name : A → SchemaFault) (o : Option A) → none_of name o ≡ Ok tt → o ≡ None
nothing name None e = refl
nothing name (Some x) e = absurd cc

first_ok : {A B : Type 0} (x : Result A SchemaFault) (f : A → Result B SchemaFault) → is_ok (x >>= f) ≡ true → is_ok x
    ≡ true
first_ok (Ok a) f e = refl
first_ok (Err fault) f e = e

second_ok : {B : Type 0} (x : Result (Unit {0}) SchemaFault) (f : Unit {0} → Result B SchemaFault) → is_ok (x >>= f)
    ≡ true → is_ok (f tt) ≡ true
second_ok (Ok a) f e = e
second_ok (Err fault) f e = absurd cc

ok_is : (x : Result (Unit {0}) SchemaFault) → is_ok x ≡ true → x ≡ Ok tt
ok_is (Ok a) e = refl
ok_is (Err fault) e = absurd cc

name_is_type : (records : List SchemaRecord) (lines : List Line) → is_ok (added records Attribute lines) ≡ true
    → IsType (text_of field.DisplayName lines)
unfolding added checked bad_value
name_is_type records lines ok =
    let good = first_ok (checked Attribute lines) _ ok in
    let absent = nothing _ (missing Attribute lines) (ok_is _ (first_ok (none_of _ (missing Attribute lines)) _ good))
    in
    let fine = nothing _ (bad_value Attribute lines)
    (ok_is _ (second_ok (none_of _ (missing Attribute lines)) _ good)) in
    first_reads [] lines fine (has_display lines absent)

-- ---- all records

names_after : (before records : List SchemaRecord) → all_added before records ≡ true
    → AllByRecursion IsType (names_of Attribute records)
unfolding all_added names_of lines_of
names_after before [] added_all = tt
names_after before (r ∷ records) added_all =
    let parts = and_parts (is_ok (added before r.kind r.lines)) (all_added (before ++ r ∷ []) records) added_all in
    by_kind r.kind parts.0 (names_after (before ++ r ∷ []) records parts.1)
  where
    by_kind : (kind : SchemaKind) → is_ok (added before kind r.lines) ≡ true
        → AllByRecursion IsType (names_of Attribute records)
        → AllByRecursion IsType (names_of Attribute (record r { kind = kind } ∷ records))
    by_kind Attribute ok rest = (name_is_type before r.lines ok, rest)
    by_kind Class ok rest = rest
    by_kind Right ok rest = rest

at_place : (P : List ℕ → Type 0) (names : List (List ℕ)) (i : ℕ) (name : List ℕ) → AllByRecursion P names
    → slice_get names i ≡ Some name → P name
at_place P [] i name all is = absurd (none-some name is)
at_place P (x ∷ xs) zero name all is = subst P (same_Some x name is) all.0
at_place P (x ∷ xs) (suc i) name all is = at_place P xs i name all.1 is

pub type_at : (records : List SchemaRecord) (attr : ℕ) (info : AttrInfo) → MakeSchema records
    → slice_get (attrs_of records) attr ≡ Some info → IsType info.name
type_at records attr info schema is = at_place IsType (names_of Attribute records) attr info.name
    (names_after [] records schema.added.added) (named_at records attr info is)
