-- What a record more repeats, and what the builder notes of it.
use Rattle.std.proofs.Common.{◌≡◌, ℕ, ◌≤◌, Bool, true, false, ◌||◌, List, [], ◌∷◌, ◌++◌, length, map, refl, sym, ap}
use Rattle.std.proofs.Common.{◌∙◌, Option, Some, None, Result, Ok, Err, subst, if◌then◌else◌, arith}
use Rattle.std.specs.Option.{option_map, option_to_list, is_some}
use Rattle.std.specs.List.{list_any}
use Rattle.std.proofs.lemmas.List.{map-append, length-map, append-nil}
use Rattle.ad_ids.specs.declared.guid.Guid.{Guid}
use Rattle.ad_schema.specs.declared.line.SchemaKind.{SchemaKind}
use Rattle.ad_schema.specs.declared.line.SchemaKind.TheVariants.{Attribute, Class, Right}
use Rattle.ad_schema.specs.declared.line.Line.{Line}
use Rattle.ad_schema.specs.declared.line.SchemaRecord.{SchemaRecord}
use Rattle.ad_schema.specs.declared.field.Field.TheVariants as field
use Rattle.ad_schema.specs.declared.fault.SchemaFault.TheVariants.{Repeated}
use Rattle.ad_schema.specs.Fields.{text_of}
use Rattle.ad_schema.specs.Attributes.{lines_of, lines_if, names_of, right_guid}
use Rattle.ad_ids.specs.Guid.{same_guid}
use Rattle.ad_schema.specs.Records.{is_memory, none_of, right_guids}
use Rattle.ad_schema.specs.Titles.{right_key, right_keys, AreTitlesOf}
use Rattle.ad_schema_classes.specs.Hashes.{place_by}
use Rattle.ad_schema_classes.specs.declared.names.Case.TheVariants.{Kept}
use Rattle.ad_schema.specs.declared.fault.SchemaFault.{SchemaFault}
use Rattle.ad_bytes.specs.Reading.{GivesUnless}
use Rattle.ad_schema_classes.proofs.IndexLemmas.{any_by}
use Rattle.ad_schema.proofs.RecordLemmas.{lines_push, lines_few}

pub taken : (test : Bool) (text name : List ℕ) → name ≡ text → test ≡ true
    → none_of Repeated (if test then Some text else None) ≡ Err (Repeated name)
taken test text name same is = rw (is, same) refl

pub free : (test : Bool) (text : List ℕ) → test ≡ false → none_of Repeated (if test then Some text else None) ≡ Ok tt
free test text is = rw is refl

-- the lines of a kind, mapped, with one record more
pub mapped_push : {A : Type 0} (f : List Line → A) (kind : SchemaKind) (records : List SchemaRecord)
    (r : SchemaRecord) (more : Option (List Line)) → lines_if kind r ≡ more
    → map f (lines_of kind (records ++ r ∷ [])) ≡ map f (lines_of kind records) ++ option_to_list (option_map f more)
mapped_push f kind records r more is =
    ap (map f) (lines_push kind records r ∙ ap (λ (o : Option (List Line)). lines_of kind records ++ option_to_list o)
    is)
    ∙ map-append f (lines_of kind records) (option_to_list more)
    ∙ ap (λ (l : List _). map f (lines_of kind records) ++ l) (of_option more)
  where
    of_option : (o : Option (List Line)) → map f (option_to_list o) ≡ option_to_list (option_map f o)
    of_option None = refl
    of_option (Some x) = refl

abbrev rec : SchemaKind → List Line → SchemaRecord
rec kind lines = record { kind = kind; lines = lines }

names_more : (kind : SchemaKind) (records : List SchemaRecord) (r : SchemaRecord) (lines : List Line)
    → lines_if kind r ≡ Some lines → names_of kind (records ++ r ∷ []) ≡ names_of kind records
    ++ text_of field.DisplayName lines ∷ []
unfolding names_of
names_more kind records r lines is = mapped_push (text_of field.DisplayName) kind records r (Some lines) is

names_same : (kind : SchemaKind) (records : List SchemaRecord) (r : SchemaRecord) → lines_if kind r ≡ None
    → names_of kind (records ++ r ∷ []) ≡ names_of kind records
unfolding names_of
names_same kind records r is = mapped_push (text_of field.DisplayName) kind records r None is ∙ append-nil _

keys_more : (records : List SchemaRecord) (r : SchemaRecord) (lines : List Line) → lines_if Right r ≡ Some lines
    → right_keys (records ++ r ∷ []) ≡ right_keys records ++ right_key lines ∷ []
unfolding right_keys
keys_more records r lines is = mapped_push right_key Right records r (Some lines) is

keys_same : (records : List SchemaRecord) (r : SchemaRecord) → lines_if Right r ≡ None
    → right_keys (records ++ r ∷ []) ≡ right_keys records
unfolding right_keys
keys_same records r is = mapped_push right_key Right records r None is ∙ append-nil _

pub attr_noted : (records : List SchemaRecord) (attrs classes new : List (List ℕ)) (rights : List (List ℕ))
    (lines : List Line) → AreTitlesOf records attrs classes rights
    → new ≡ attrs ++ text_of field.DisplayName lines ∷ [] → AreTitlesOf (records ++ rec Attribute lines ∷ []) new
    classes rights
unfolding lines_if
attr_noted records attrs classes new rights lines old is = record {
  attrs_are = is ∙ ap (λ (ns : List (List ℕ)). ns ++ text_of field.DisplayName lines ∷ []) old.attrs_are
      ∙ sym (names_more Attribute records (rec Attribute lines) lines refl);
  classes_are = old.classes_are ∙ sym (names_same Class records (rec Attribute lines) refl);
  rights_are = old.rights_are ∙ sym (keys_same records (rec Attribute lines) refl);
}

pub class_noted : (records : List SchemaRecord) (attrs classes new : List (List ℕ)) (rights : List (List ℕ))
    (lines : List Line) → AreTitlesOf records attrs classes rights
    → new ≡ classes ++ text_of field.DisplayName lines ∷ [] → AreTitlesOf (records ++ rec Class lines ∷ []) attrs new
    rights
unfolding lines_if
class_noted records attrs classes new rights lines old is = record {
  attrs_are = old.attrs_are ∙ sym (names_same Attribute records (rec Class lines) refl);
  classes_are = is ∙ ap (λ (ns : List (List ℕ)). ns ++ text_of field.DisplayName lines ∷ []) old.classes_are
      ∙ sym (names_more Class records (rec Class lines) lines refl);
  rights_are = old.rights_are ∙ sym (keys_same records (rec Class lines) refl);
}

pub right_noted : (records : List SchemaRecord) (attrs classes : List (List ℕ)) (rights new : List (List ℕ))
    (lines : List Line) → AreTitlesOf records attrs classes rights
    → new ≡ rights ++ right_key lines ∷ [] → AreTitlesOf (records ++ rec Right lines ∷ []) attrs classes new
unfolding lines_if
right_noted records attrs classes rights new lines old is = record {
  attrs_are = old.attrs_are ∙ sym (names_same Attribute records (rec Right lines) refl);
  classes_are = old.classes_are ∙ sym (names_same Class records (rec Right lines) refl);
  rights_are = is ∙ ap (λ (gs : List (List ℕ)). gs ++ right_key lines ∷ []) old.rights_are
      ∙ sym (keys_more records (rec Right lines) lines refl);
}

pub names_few : (kind : SchemaKind) (records : List SchemaRecord) (names : List (List ℕ)) → names
    ≡ names_of kind records → length names ≤ length records
unfolding names_of
names_few kind records names is = omega (
  arith,
  ap length is,
  length-map (lines_of kind records)
      (text_of field.DisplayName),
  lines_few kind records,
)

-- nothing is noted of no records
pub none_noted : (records : List SchemaRecord) (attrs classes : List (List ℕ)) (rights : List (List ℕ)) → records ≡ []
    → attrs ≡ [] → classes ≡ [] → rights ≡ [] → AreTitlesOf records attrs classes rights
unfolding names_of right_keys lines_of
none_noted records attrs classes rights one two three four = rw (one, two, three, four) record
    { attrs_are = refl; classes_are = refl; rights_are = refl }

pub keys_few : (records : List SchemaRecord) (keys : List (List ℕ)) → keys ≡ right_keys records → length keys
    ≤ length records
unfolding right_keys
keys_few records keys is = omega (
  arith,
  ap length is,
  length-map (lines_of Right records) right_key,
  lines_few Right
      records,
)

any_map : {A B : Type 0} (p : B → Bool) (f : A → B) (xs : List A) → list_any p (map f xs) ≡ list_any (λ x. p (f x)) xs
any_map p f [] = refl
any_map p f (x ∷ xs) = ap (λ (b : Bool). p (f x) || b) (any_map p f xs)

-- a GUID is known where it is that of a right
pub right_known : (records : List SchemaRecord) (keys : List (List ℕ)) (guid : Guid) → keys ≡ right_keys records
    → is_some (place_by Kept keys guid.bytes) ≡ list_any (λ other. same_guid other guid) (right_guids records)
unfolding right_keys right_guids
right_known records keys guid is =
    ap (λ (ks : List (List ℕ)). is_some (place_by Kept ks guid.bytes)) is
    ∙ any_by right_key guid.bytes (lines_of Right records)
    ∙ sym (any_map (λ other. same_guid other guid) right_guid (lines_of Right records))

pub fault_same : (answer : Result (Unit {0}) SchemaFault) (a b : Bool) (name : List ℕ) → a ≡ b
    → GivesUnless is_memory (λ (_ : Unit {0}). tt) answer (none_of Repeated (if a then Some name else None))
    → GivesUnless is_memory (λ (_ : Unit {0}). tt) answer (none_of Repeated (if b then Some name else None))
fault_same answer a b name same given = subst
    (λ (test : Bool). GivesUnless is_memory (λ (_ : Unit {0}). tt) answer
    (none_of Repeated (if test then Some name else None))) same given
