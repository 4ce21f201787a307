-- What differs between two schemas: the attributes, classes and rights of which one says something else.
use Rattle.std.specs.Prelude.{ℕ, Bool, if◌then◌else◌, List, [], ◌∷◌, ◌++◌, map, length, decimal}
use Rattle.std.specs.List.{flat_map, list_any}
use Rattle.ad_schema.specs.declared.field.Field.{Field}
use Rattle.ad_schema.specs.declared.field.Field.TheVariants as field
use Rattle.ad_schema.specs.declared.info.RightInfo.{RightInfo}
use Rattle.ad_schema.specs.declared.line.Line.{Line}
use Rattle.ad_schema.specs.declared.line.SchemaKind.{SchemaKind}
use Rattle.ad_schema.specs.declared.line.SchemaKind.TheVariants.{Attribute, Class, Right}
use Rattle.ad_schema.specs.declared.line.SchemaRecord.{SchemaRecord}
use Rattle.ad_schema.specs.Fields.{fields, is_line_of, text_of}
use Rattle.ad_schema.specs.Attributes.{right_guid}
use Rattle.ad_access_dir.specs.Labels.{right_title}
use Rattle.ad_causes.specs.Extra.{has_text}
use Rattle.ad_causes.specs.Cause.{Cause, schema}

-- ---- a record

abbrev pub kind_code : SchemaKind → ℕ
kind_code Attribute = 65
kind_code Class = 67
kind_code Right = 82

abbrev pub name_field : SchemaKind → Field
name_field Attribute = field.DisplayName
name_field Class = field.DisplayName
name_field Right = field.CommonName

unfoldable pub record_name : SchemaRecord → List ℕ
record_name r = text_of (name_field r.kind) r.lines

-- its kind and its name
abbrev pub record_key : SchemaRecord → List ℕ
record_key r = kind_code r.kind ∷ record_name r

-- a text after its length, so that nothing that stands beside it reads as a part of it
abbrev pub sized : List ℕ → List ℕ
sized text = decimal (length text) ++ 58 ∷ text

-- a line that a rule reads in a record of the kind
abbrev pub is_read : SchemaKind → Line → Bool
is_read kind line = list_any (λ (f : Field). is_line_of f line) (fields kind)

abbrev pub line_text : SchemaKind → Line → List ℕ
line_text kind line = if is_read kind line then sized line.name ++ sized line.value else []

-- its kind, and all that the rules read of it
unfoldable pub record_text : SchemaRecord → List ℕ
record_text r = kind_code r.kind ∷ flat_map (line_text r.kind) r.lines

-- how a line tells it: by its name where that is a word, else by its GUID
abbrev pub title_info : SchemaRecord → RightInfo
title_info r = record { name = record_name r; guid = right_guid r.lines; accesses = 0; applies = [] }

abbrev pub record_title : SchemaRecord → List ℕ
record_title r = right_title (title_info r)

-- ---- two schemas

abbrev pub told_unless : List (List ℕ) → List ℕ → SchemaRecord → List Cause
told_unless texts text r = if has_text texts text then [] else schema (record_title r) ∷ []

-- a record of the second of which the first has no other that says the same
abbrev pub new_causes : List (List ℕ) → SchemaRecord → List Cause
new_causes texts r = told_unless texts (record_text r) r

-- a record of the first of whose kind and name the second has none
abbrev pub gone_causes : List (List ℕ) → SchemaRecord → List Cause
gone_causes keys r = told_unless keys (record_key r) r

unfoldable pub schema_causes : List SchemaRecord → List SchemaRecord → List Cause
schema_causes was is =
    flat_map (new_causes (map record_text was)) is ++ flat_map (gone_causes (map record_key is)) was
