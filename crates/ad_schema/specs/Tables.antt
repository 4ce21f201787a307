-- What a schema keeps beside its records.
use Rattle.std.specs.Prelude.{◌≡◌, ℕ, List, length}
use Rattle.ad_schema.specs.declared.line.SchemaKind.TheVariants.{Attribute, Class}
use Rattle.ad_schema.specs.declared.line.SchemaRecord.{SchemaRecord}
use Rattle.ad_schema.specs.declared.info.AttrInfo.{AttrInfo}
use Rattle.ad_schema.specs.declared.info.ClassInfo.{ClassInfo}
use Rattle.ad_schema.specs.declared.info.RightInfo.{RightInfo}
use Rattle.ad_schema_classes.specs.declared.links.ClassLinks.{ClassLinks}
use Rattle.ad_schema_classes.specs.declared.rows.ClassRows.{ClassRows}
use Rattle.ad_schema.specs.Attributes.{names_of, attrs_of, rights_of}
use Rattle.ad_schema.specs.Classes.{classes_of, cn_of}
use Rattle.ad_schema.specs.Links.{links_of}
use Rattle.ad_schema_classes.specs.Rows.{HaveRows}
use Rattle.ad_schema.specs.Titles.{right_keys}

-- the infos, as the records say them
pub record AreInfosOf (records : List SchemaRecord) (attrs : List AttrInfo) (classes : List ClassInfo)
    (rights : List RightInfo) : Type 0 where
  pub attrs_are : attrs ≡ attrs_of records
  pub classes_are : classes ≡ classes_of records
  pub rights_are : rights ≡ rights_of records

-- the names and the GUIDs of rights, and what the classes name
pub record AreLinksOf (records : List SchemaRecord) (attrs classes rights : List (List ℕ)) (links : List ClassLinks)
    : Type 0 where
  pub attr_names_are : attrs ≡ names_of Attribute records
  pub class_names_are : classes ≡ names_of Class records
  pub right_keys_are : rights ≡ right_keys records
  pub links_are : links ≡ links_of records

-- the rows of all classes
pub record AreAllRowsOf (records : List SchemaRecord) (rows : List ClassRows) : Type 0 where
  pub long : length rows ≡ length (links_of records)
  pub rows_are : HaveRows (links_of records) (cn_of (names_of Attribute records)) (length (attrs_of records)) rows
