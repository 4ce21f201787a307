-- What is kept of attributes and classes that were found by their names. Only for private contracts, invariants and
-- proofs.
use Rattle.std.specs.Prelude.{◌≡◌, ◌<◌, Some, IfSome, List, length}
use Rattle.std.specs.List.{AllByRecursion}
use Rattle.ad_schema.specs.declared.line.SchemaRecord.{SchemaRecord}
use Rattle.ad_schema.specs.declared.info.AttrId.{AttrId}
use Rattle.ad_schema.specs.declared.info.ClassId.{ClassId}
use Rattle.ad_schema.specs.Attributes.{attrs_of, attr_named}
use Rattle.ad_schema.specs.Classes.{classes_of, class_named}
use Rattle.ad_load_objects.specs.declared.found.Found.{Found}

-- the schema has this attribute, or this class, by the name
pub record IsFound (schema : List SchemaRecord) (one : Found) : Type 0 where
  pub attr : IfSome one.attr (λ (id : AttrId). (attr_named schema one.name ≡ Some id)
      × (id.0 < length (attrs_of schema)))
  pub class : IfSome one.class (λ (id : ClassId). (class_named schema one.name ≡ Some id)
      × (id.0 < length (classes_of schema)))

abbrev pub AreFound : List SchemaRecord → List Found → Type 0
AreFound schema found = AllByRecursion (IsFound schema) found
