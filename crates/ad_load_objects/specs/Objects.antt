-- Phase 3: the objects by rising number of parts of their names, those of one number in the order of the file. They
-- are numbered from 1; the first is the root.
use Rattle.std.specs.Prelude.{ℕ, nat_le, nat_lt, Bool, false, not, ◌==◌, ◌&&◌, ◌||◌, is_none, if◌then◌else◌}
use Rattle.std.specs.Prelude.{codes, Option, Some, None, ok_or, List, [], ◌∷◌, ◌++◌, length, drop}
use Rattle.std.specs.Prelude.{map, Result, Ok}
use Rattle.std.specs.Option.{option_map_or}
use Rattle.std.specs.List.{list_all, list_any}
use Rattle.sha2.specs.Sha256.{sha256}
use Rattle.ad_bytes.specs.Reading.{◌>>=◌, need, or_fault}
use Rattle.ad_ids.specs.SidValue.{SidValue}
use Rattle.ad_dn.specs.declared.rdn.Rdn.{Rdn}
use Rattle.ad_ldif.specs.Records.{Field}
use Rattle.ad_sd.specs.declared.parts.Sd.{Sd}
use Rattle.ad_sd.specs.Reading.{sd_of}
use Rattle.ad_value.specs.Value.{Value, as_shown, same_key}
use Rattle.ad_value.specs.ValueOf.{normal_or_fault, sid_of}
use Rattle.ad_schema.specs.declared.line.SchemaRecord.{SchemaRecord}
use Rattle.ad_schema.specs.declared.info.ClassId.{ClassId}
use Rattle.ad_schema_classes.specs.Names.{same_name}
use Rattle.ad_schema.specs.Classes.{class_named, naming_of}
use Rattle.ad_schema.specs.Meaning.{attr_is_back_link}
use Rattle.ad_dir_model.specs.Attributes.{attr_place, attr_name, is_password, is_single, syntax_at, object_sid}
use Rattle.ad_dir_model.specs.Identity.{is_sid}
use Rattle.ad_dir_model.specs.Names.{same_folded}
use Rattle.ad_schema_defaults.specs.NewClass.{is_structural, lowest_of}
use Rattle.ad_load_records.specs.declared.fault.LoadFault.{LoadFault}
use Rattle.ad_load_records.specs.declared.fault.LoadCause.TheVariants as cause
use Rattle.ad_load_records.specs.Faults.{at, of_all}
use Rattle.ad_load_objects.specs.Through.{through}
use Rattle.ad_load_records.specs.Records.{Record, is_object_class}
use Rattle.ad_load_objects.specs.Drafts.{Given, Draft, number_named, naming_value, is_given, draft_sid}

-- ---- the order

abbrev pub is_object : Record → Bool
is_object r = is_none r.kind

-- before the first that has no fewer parts
unfoldable pub put_by_parts : Record → List Record → List Record
put_by_parts r [] = r ∷ []
put_by_parts r (other ∷ others) = if nat_le (length r.rdns) (length other.rdns) then r ∷ other ∷ others else other
    ∷ put_by_parts r others

unfoldable pub by_parts : List Record → List Record
by_parts [] = []
by_parts (r ∷ records) = put_by_parts r (by_parts records)

-- a record of the schema, or of an object whose name has more parts
abbrev pub is_no_root : Record → Record → Bool
is_no_root r other = not (is_object other) || nat_lt (length r.rdns) (length other.rdns)

-- the first object has fewer parts than all others
unfoldable pub has_root : List Record → Bool
has_root [] = false
has_root (r ∷ others) = if is_object r then list_all (is_no_root r) others else has_root others

-- ---- place and name

-- the number of the object above; the root has none above it
unfoldable pub parent_of : List Draft → List Rdn → Option ℕ
parent_of [] rdns = Some 0
parent_of drafts rdns = number_named drafts (drop 1 rdns)

-- a child of the parent that has this naming value after folding, whatever its type
abbrev pub is_sibling : ℕ → List ℕ → Draft → Bool
is_sibling parent name draft = draft.parent == parent && same_folded (naming_value draft.rdns) name

unfoldable pub is_taken : List Draft → ℕ → List ℕ → Bool
is_taken drafts parent name = list_any (is_sibling parent name) drafts

-- the name begins with the naming attribute of the class
abbrev pub is_named_by : List ℕ → List Rdn → Bool
is_named_by attr [] = false
is_named_by attr (rdn ∷ rdns) = same_name rdn.kind attr

-- ---- the class

-- the classes so far, and that of one line more, where it is of objectClass
unfoldable pub with_class : List SchemaRecord → ℕ → List ClassId → Field → Result (List ClassId) LoadFault
with_class schema line classes field =
    if is_object_class field.name then (ok_or (class_named schema field.value) (at line cause.Class) >>= λ class.
    Ok (classes ++ class ∷ []))
    else Ok classes

-- the classes that the lines name, where each names one
unfoldable pub classes_named : List SchemaRecord → ℕ → List Field → Result (List ClassId) LoadFault
classes_named schema line fields = through (with_class schema line) [] fields

-- the class of an object, by the values of its objectClass: the one whose chain has all of them
unfoldable pub class_of : List SchemaRecord → ℕ → List Field → Result ClassId LoadFault
class_of schema line fields = do
  classes ← classes_named schema line fields
  class ← ok_or (lowest_of schema (map (λ id. id.0) classes)) (at line cause.Class)
  _ ← need (is_structural schema class) (at line cause.Class)
  Ok (record { 0 = class })

-- ---- one line

-- what the lines so far gave
pub record DraftValues : Type 0 where
  pub given : List Given
  pub sd : Option Sd

abbrev pub nothing_kept : DraftValues
nothing_kept = record { given = []; sd = None }

-- a descriptor that can be read, and the first one
unfoldable pub with_sd : DraftValues → Field → Result DraftValues LoadFault
with_sd kept field = do
  _ ← need (is_none kept.sd) (at field.line cause.Descriptor)
  sd ← or_fault (at field.line cause.Descriptor) (sd_of field.value)
  Ok (record { given = kept.given; sd = Some sd })

-- Attributes whose values are made of the object itself, or of other objects' links. Their lines aren't looked at.
unfoldable pub is_dropped : List SchemaRecord → ℕ → ℕ → List ℕ → Bool
is_dropped schema class attr name =
    same_name name (codes "objectClass") || same_name name (codes "distinguishedName") || same_name name (codes "name")
    || naming_of schema class == attr || attr_is_back_link schema attr

-- A value in its attribute's syntax. A password is kept as its digest, and its syntax isn't asked.
unfoldable pub value_of : List SchemaRecord → ℕ → Field → Result Value LoadFault
value_of schema attr field =
    if is_password schema attr then Ok (as_shown (sha256 field.value))
    else or_fault (at field.line (cause.Value field.name)) (normal_or_fault (syntax_at schema attr) field.value)

-- of this attribute, where one value is all, or the value has the key
abbrev pub is_same_given : Bool → ℕ → Value → Given → Bool
is_same_given single attr value g = g.attr == attr && (single || same_key g.value.key value.key)

-- the attribute has the value already, or may have no more
unfoldable pub is_one_too_many : List SchemaRecord → List Given → ℕ → Value → Bool
is_one_too_many schema given attr value = list_any (is_same_given (is_single schema attr) attr value) given

-- an object has the identifier already
abbrev pub has_sid : List SchemaRecord → SidValue → Draft → Bool
has_sid schema sid draft = is_sid sid (draft_sid schema draft)

unfoldable pub is_sid_used : List SchemaRecord → List Draft → Option SidValue → Bool
is_sid_used schema drafts None = false
is_sid_used schema drafts (Some sid) = list_any (has_sid schema sid) drafts

-- the value is the first of objectSid, and an object has that identifier already
unfoldable pub is_sid_taken : List SchemaRecord → List Draft → List Given → ℕ → Value → Bool
is_sid_taken schema drafts given attr value =
    option_map_or (λ place. place == attr) (object_sid schema) false && not (list_any (is_given attr) given)
    && is_sid_used schema drafts (sid_of value.shown)

unfoldable pub with_value : List SchemaRecord → List Draft → DraftValues → ℕ → Field → Result DraftValues LoadFault
with_value schema drafts kept attr field = do
  value ← value_of schema attr field
  _ ← need (not (is_one_too_many schema kept.given attr value)) (at field.line (cause.Value field.name))
  _ ← need (not (is_sid_taken schema drafts kept.given attr value)) (at field.line cause.Sid)
  Ok (record {
    given = kept.given ++ record { line = field.line; spelled = field.name; attr = attr; value = value }
        ∷ [];
    sd = kept.sd;
  })

-- a line of an attribute of the schema
unfoldable pub with_ordinary : List SchemaRecord → List Draft → ℕ → DraftValues → Field → Result DraftValues LoadFault
with_ordinary schema drafts class kept field = do
  attr ← ok_or (attr_place schema field.name) (at field.line (cause.Attribute field.name))
  if is_dropped schema class attr field.name then Ok kept else with_value schema drafts kept attr field

-- nTSecurityDescriptor is no ordinary attribute, whether the schema names it or not.
unfoldable pub with_line : List SchemaRecord → List Draft → ℕ → DraftValues → Field → Result DraftValues LoadFault
with_line schema drafts class kept field =
    if same_name field.name (codes "nTSecurityDescriptor") then with_sd kept field else with_ordinary schema drafts
    class kept field

unfoldable pub with_lines : List SchemaRecord → List Draft → ℕ → List Field → Result DraftValues LoadFault
with_lines schema drafts class fields = through (with_line schema drafts class) nothing_kept fields

-- ---- one object, after those before it

unfoldable pub draft_of : List SchemaRecord → List Draft → Record → Result Draft LoadFault
draft_of schema drafts r = do
  parent ← ok_or (parent_of drafts r.rdns) (at r.line cause.Parent)
  class ← class_of schema r.line r.fields
  _ ← need (is_named_by (attr_name schema (naming_of schema class.0)) r.rdns) (at r.line cause.Naming)
  _ ← need (not (is_taken drafts parent (naming_value r.rdns))) (at r.line cause.NameTaken)
  kept ← with_lines schema drafts class.0 r.fields
  Ok (record { rdns = r.rdns; parent = parent; class = class.0; given = kept.given; sd = kept.sd })

-- ---- all objects

unfoldable pub with_record : List SchemaRecord → List Draft → Record → Result (List Draft) LoadFault
with_record schema drafts r = if is_object r then (draft_of schema drafts r >>= λ draft. Ok (drafts ++ draft ∷ []))
    else Ok drafts

unfoldable pub drafts_of : List SchemaRecord → List Record → Result (List Draft) LoadFault
drafts_of schema records = do
  _ ← need (has_root (by_parts records)) (of_all cause.Root)
  through (with_record schema) [] (by_parts records)
