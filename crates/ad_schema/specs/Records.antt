-- Records that make a schema, and the faults of records that don't.
use Rattle.std.specs.Prelude.{ℕ, Bool, true, false, List, [], ◌∷◌, ◌++◌, slice_get, codes, Option, Some, None}
use Rattle.std.specs.Prelude.{find, map, is_none, is_some, Result, Ok, Err, if◌then◌else◌}
use Rattle.std.specs.List.{list_any}
use Rattle.std.specs.Option.{option_map, option_or, option_and_then}
use Rattle.ad_bytes.specs.Reading.{◌>>=◌, need}
use Rattle.ad_ids.specs.declared.guid.Guid.{Guid}
use Rattle.ad_schema.specs.declared.line.SchemaKind.{SchemaKind}
use Rattle.ad_schema.specs.declared.line.SchemaKind.TheVariants.{Attribute, Class, Right}
use Rattle.ad_schema.specs.declared.line.Line.{Line}
use Rattle.ad_schema.specs.declared.line.SchemaRecord.{SchemaRecord}
use Rattle.ad_schema.specs.declared.field.Field.{Field}
use Rattle.ad_schema.specs.declared.field.Field.TheVariants as field
use Rattle.ad_schema.specs.declared.fault.SchemaFault.{SchemaFault}
use Rattle.ad_schema.specs.declared.fault.SchemaFault.TheVariants as fault
use Rattle.ad_schema.specs.Fields.{name_of, field_of, text_of}
use Rattle.ad_schema.specs.Faults.{missing, bad_value}
use Rattle.ad_schema.specs.Attributes.{lines_of, names_of, right_guid}
use Rattle.ad_schema_classes.specs.Names.{place_of}
use Rattle.ad_ids.specs.Guid.{same_guid}
use Rattle.ad_schema_classes.specs.Chains.{first_endless}
use Rattle.ad_schema.specs.Classes.{superclasses}

abbrev pub is_memory : SchemaFault → Bool
is_memory fault.Memory = true
is_memory _ = false

-- no fault, where there is none of what would be one
abbrev pub none_of : {A : Type 0} → (A → SchemaFault) → Option A → Result (Unit {0}) SchemaFault
none_of name None = Ok tt
none_of name (Some x) = Err (name x)

-- ---- one record more

-- the first fault of a record by itself
unfoldable pub checked : SchemaKind → List Line → Result (Unit {0}) SchemaFault
checked kind lines = do
  _ ← none_of (λ field. fault.Missing (name_of field)) (missing kind lines)
  none_of (λ field. fault.Value (name_of field)) (bad_value kind lines)

unfoldable pub right_guids : List SchemaRecord → List Guid
right_guids records = map right_guid (lines_of Right records)

unfoldable pub has_name : List (List ℕ) → List ℕ → Bool
has_name names name = is_some (place_of names name)

-- whether there is an attribute or a class of the record's name, or a right of its GUID
unfoldable pub is_repeated : List SchemaRecord → SchemaKind → List Line → Bool
is_repeated records Attribute lines = has_name (names_of Attribute records) (text_of field.DisplayName lines)
is_repeated records Class lines = has_name (names_of Class records) (text_of field.DisplayName lines)
is_repeated records Right lines = list_any (λ guid. same_guid guid (right_guid lines)) (right_guids records)

-- the name of a record, as spelled
abbrev pub title_of : SchemaKind → List Line → List ℕ
title_of Right lines = text_of field.CommonName lines
title_of _ lines = text_of field.DisplayName lines

unfoldable pub repeated : List SchemaRecord → SchemaKind → List Line → Option (List ℕ)
repeated records kind lines = if is_repeated records kind lines then Some (title_of kind lines) else None

-- The records with one more after them, or the first fault of that one.
unfoldable pub added : List SchemaRecord → SchemaKind → List Line → Result (List SchemaRecord) SchemaFault
added records kind lines = do
  _ ← checked kind lines
  _ ← none_of fault.Repeated (repeated records kind lines)
  Ok (records ++ record { kind = kind; lines = lines } ∷ [])

-- ---- all records

-- Whether a value names an attribute or a class that isn't there. attrs and classes are the names of those that are.
abbrev pub names_nothing : List (List ℕ) → List (List ℕ) → Field → List ℕ → Bool
names_nothing attrs classes field.SubClassOf value = is_none (place_of classes value)
names_nothing attrs classes field.Superiors value = is_none (place_of classes value)
names_nothing attrs classes field.Auxiliary value = is_none (place_of classes value)
names_nothing attrs classes field.SystemSuperiors value = is_none (place_of classes value)
names_nothing attrs classes field.SystemAuxiliary value = is_none (place_of classes value)
names_nothing attrs classes field.NamingAttribute value = is_none (place_of attrs value)
names_nothing attrs classes field.MustContain value = is_none (place_of attrs value)
names_nothing attrs classes field.MayContain value = is_none (place_of attrs value)
names_nothing attrs classes field.SystemMustContain value = is_none (place_of attrs value)
names_nothing attrs classes field.SystemMayContain value = is_none (place_of attrs value)
names_nothing attrs classes _ value = false

unfoldable pub is_unknown : List (List ℕ) → List (List ℕ) → Line → Bool
is_unknown attrs classes line = elim (field_of Class line)
    [ None ↦ false | Some field ↦ names_nothing attrs classes field line.value ]

-- the first such value in the record of a class, and in all of them
unfoldable pub unknown_in : List (List ℕ) → List (List ℕ) → List Line → Option (List ℕ)
unknown_in attrs classes lines = option_map (λ line. line.value) (find (is_unknown attrs classes) lines)

unfoldable pub first_unknown : List (List ℕ) → List (List ℕ) → List (List Line) → Option (List ℕ)
first_unknown attrs classes [] = None
first_unknown attrs classes (lines ∷ records) = option_or (unknown_in attrs classes lines)
    (first_unknown attrs classes records)

unfoldable pub unknown : List SchemaRecord → Option (List ℕ)
unknown records = first_unknown (names_of Attribute records) (names_of Class records) (lines_of Class records)

-- the name of the first class whose chain never ends
unfoldable pub endless : List SchemaRecord → Option (List ℕ)
endless records = option_and_then (slice_get (names_of Class records)) (first_endless (superclasses records))

-- The records, where they make a schema, or the first fault.
unfoldable pub finished : List SchemaRecord → Result (List SchemaRecord) SchemaFault
finished records = do
  _ ← none_of fault.Unknown (unknown records)
  _ ← need (is_some (place_of (names_of Attribute records) (codes "cn"))) (fault.Unknown (codes "cn"))
  _ ← none_of fault.Loop (endless records)
  Ok records
