-- What the records of attributes and rights say.
use Rattle.std.specs.Prelude.{ℕ, ◌^◌, Bool, true, false, List, [], ◌∷◌, ◌==◌, Option, Some, None, unwrap_or, filter}
use Rattle.std.specs.Prelude.{map, filter_map, find, if◌then◌else◌}
use Rattle.std.specs.Int.{bit_at}
use Rattle.std.specs.Option.{option_map, option_and_then}
use Rattle.ad_ids.specs.Guid.{same_guid}
use Rattle.ad_schema_classes.specs.Names.{place_of}
use Rattle.ad_ids.specs.declared.guid.Guid.{Guid}
use Rattle.ad_ids.specs.GuidText.{guid_of}
use Rattle.ad_value.specs.Syntax.{syntax_of}
use Rattle.ad_schema.specs.declared.line.SchemaKind.{SchemaKind}
use Rattle.ad_schema.specs.declared.line.SchemaKind.TheVariants.{Attribute, Class, Right}
use Rattle.ad_schema.specs.declared.line.Line.{Line}
use Rattle.ad_schema.specs.declared.line.SchemaRecord.{SchemaRecord}
use Rattle.ad_schema.specs.declared.field.Field.TheVariants as field
use Rattle.ad_schema.specs.declared.info.AttrId.{AttrId}
use Rattle.ad_schema.specs.declared.info.AttrInfo.{AttrInfo}
use Rattle.ad_schema.specs.declared.info.RightInfo.{RightInfo}
use Rattle.ad_schema.specs.Numbers.{number_below, signed_bits, truth_of}
use Rattle.ad_ids.specs.GuidText.{guid_of_text}
use Rattle.ad_schema.specs.Fields.{value_of, text_of, values_of}

-- ---- records of a kind

abbrev pub same_kind : SchemaKind → SchemaKind → Bool
same_kind Attribute Attribute = true
same_kind Class Class = true
same_kind Right Right = true
same_kind _ _ = false

-- the lines of the records of a kind, in file order
unfoldable pub lines_of : SchemaKind → List SchemaRecord → List (List Line)
lines_of kind records = map (λ r. r.lines) (filter (λ r. same_kind r.kind kind) records)

-- those of one record, where it is of the kind
unfoldable pub lines_if : SchemaKind → SchemaRecord → Option (List Line)
lines_if kind r = if same_kind r.kind kind then Some r.lines else None

-- the names of attributes or classes, in file order
unfoldable pub names_of : SchemaKind → List SchemaRecord → List (List ℕ)
names_of kind records = map (text_of field.DisplayName) (lines_of kind records)

-- ---- attributes

abbrev pub no_guid : Guid
no_guid = record { bytes = 0 ∷ 0 ∷ 0 ∷ 0 ∷ 0 ∷ 0 ∷ 0 ∷ 0 ∷ 0 ∷ 0 ∷ 0 ∷ 0 ∷ 0 ∷ 0 ∷ 0 ∷ 0 ∷ [] }

-- searchFlags has bit 0x80
unfoldable pub is_confidential : ℕ → Bool
is_confidential bits = bit_at bits 7 == 1

unfoldable pub attr_info : List Line → AttrInfo
attr_info lines = record {
  name = text_of field.DisplayName lines;
  syntax = syntax_of (text_of field.AttributeSyntax lines);
  guid = unwrap_or (guid_of (text_of field.SchemaGuid lines)) no_guid;
  set = option_and_then guid_of (value_of field.SecurityGuid lines);
  confidential = is_confidential (unwrap_or (option_and_then signed_bits (value_of field.SearchFlags lines)) 0);
  single = unwrap_or (option_and_then truth_of (value_of field.SingleValued lines)) false;
  link = option_and_then (number_below (2 ^ 32)) (value_of field.LinkId lines);
}

-- the attributes, in file order: an AttrId is a place in this list
unfoldable pub attrs_of : List SchemaRecord → List AttrInfo
attrs_of records = map attr_info (lines_of Attribute records)

-- the attribute of a name
unfoldable pub attr_named : List SchemaRecord → List ℕ → Option AttrId
attr_named records name = option_map (λ n. record { 0 = n }) (place_of (names_of Attribute records) name)

-- ---- rights

unfoldable pub right_guid : List Line → Guid
right_guid lines = unwrap_or (guid_of_text (text_of field.RightsGuid lines)) no_guid

unfoldable pub right_info : List Line → RightInfo
right_info lines = record {
  name = text_of field.CommonName lines;
  guid = right_guid lines;
  accesses = unwrap_or (number_below (2 ^ 32) (text_of field.ValidAccesses lines)) 0;
  applies = filter_map guid_of_text (values_of field.AppliesTo field.AppliesTo lines);
}

-- the rights, in file order
unfoldable pub rights_of : List SchemaRecord → List RightInfo
rights_of records = map right_info (lines_of Right records)

-- the right of a GUID
unfoldable pub right_of : List SchemaRecord → Guid → Option RightInfo
right_of records guid = find (λ r. same_guid r.guid guid) (rights_of records)
