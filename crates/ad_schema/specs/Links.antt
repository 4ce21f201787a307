-- What the records of classes say, by place.
use Rattle.std.specs.Prelude.{ℕ, List, map}
use Rattle.ad_schema.specs.declared.line.SchemaKind.TheVariants.{Attribute, Class}
use Rattle.ad_schema.specs.declared.line.Line.{Line}
use Rattle.ad_schema.specs.declared.line.SchemaRecord.{SchemaRecord}
use Rattle.ad_schema_classes.specs.declared.links.ClassLinks.{ClassLinks}
use Rattle.ad_schema.specs.Attributes.{lines_of, names_of}
use Rattle.ad_schema.specs.Classes.{class_guid, superclass, own_naming, musts, mays, neighbours, superiors}

-- what the record of a class names
unfoldable pub links_in : List (List ℕ) → List (List ℕ) → List Line → ClassLinks
links_in attrs classes lines = record {
  guid = class_guid lines;
  above = superclass classes lines;
  naming = own_naming attrs lines;
  musts = musts attrs lines;
  mays = mays attrs lines;
  neighbours = neighbours classes lines;
  superiors = superiors classes lines;
}

unfoldable pub links_of : List SchemaRecord → List ClassLinks
links_of records = map (links_in (names_of Attribute records) (names_of Class records)) (lines_of Class records)
