-- What a builder keeps beside the records: the names of attributes and of classes, and the GUIDs of rights.
use Rattle.std.specs.Prelude.{◌≡◌, ℕ, List, map}
use Rattle.ad_schema.specs.declared.line.SchemaKind.TheVariants.{Attribute, Class, Right}
use Rattle.ad_schema.specs.declared.line.Line.{Line}
use Rattle.ad_schema.specs.declared.line.SchemaRecord.{SchemaRecord}
use Rattle.ad_schema.specs.Attributes.{lines_of, names_of, right_guid}

-- the bytes of a right's GUID
abbrev pub right_key : List Line → List ℕ
right_key lines = (right_guid lines).bytes

unfoldable pub right_keys : List SchemaRecord → List (List ℕ)
right_keys records = map right_key (lines_of Right records)

pub record AreTitlesOf (records : List SchemaRecord) (attrs classes rights : List (List ℕ)) : Type 0 where
  pub attrs_are : attrs ≡ names_of Attribute records
  pub classes_are : classes ≡ names_of Class records
  pub rights_are : rights ≡ right_keys records
