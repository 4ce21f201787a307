-- What the items of a Modify name, found once.
use Rattle.std.specs.Prelude.{◌≡◌, ℕ, Option, List, map}
use Rattle.ad_sd.specs.declared.parts.SdParts.{SdParts}
use Rattle.ad_ldap.specs.declared.items.Item.{Item}
use Rattle.ad_schema.specs.declared.line.SchemaRecord.{SchemaRecord}
use Rattle.ad_schema.specs.declared.info.AttrId.{AttrId}
use Rattle.ad_schema.specs.Attributes.{attr_named}
use Rattle.ad_needs_rules.specs.Modifying.{written_sd}

-- the attribute that the name of an item is of
abbrev pub attr_of : List SchemaRecord → Item → Option AttrId
attr_of schema item = attr_named schema item.attr

-- of each item its attribute, and the parts of the descriptor that are written
pub record AreDecoded (schema : List SchemaRecord) (items : List Item) (flags : ℕ) (attrs : List (Option AttrId))
    (sd : Option SdParts) : Type 0 where
  pub placed : attrs ≡ map (attr_of schema) items
  pub written : sd ≡ written_sd items flags
