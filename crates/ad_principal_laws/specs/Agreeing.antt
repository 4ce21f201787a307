-- What tokens depend on, and when two directories agree in it.
use Rattle.std.specs.Prelude.{◌≡◌, ℕ, Bool, false, Option, None, Some, List, [], codes}
use Rattle.ad_schema.specs.declared.line.SchemaRecord.{SchemaRecord}
use Rattle.ad_dir_objects.specs.declared.act.ActItem.{ActItem}
use Rattle.ad_dir_model.specs.Object.{Stored, Object, stored_in}
use Rattle.ad_dir_model.specs.Objects.{object_at}
use Rattle.ad_dir_model.specs.Attributes.{attr_place, object_sid, primary_group, member}
use Rattle.ad_dir_model.specs.Directory.{Directory}
use Rattle.ad_change_values.specs.Items.{is_item_named}

-- the values that an object has of an attribute, if there is such an attribute
abbrev pub values_of : Option ℕ → Object → List Stored
values_of None o = []
values_of (Some attr) o = stored_in o.values attr

-- Two objects have the same values of the five attributes: objectSid, primaryGroupID, member, groupType, sIDHistory.
pub record HaveSameValues (schema : List SchemaRecord) (a b : Object) : Type 0 where
  pub sids : values_of (object_sid schema) a ≡ values_of (object_sid schema) b
  pub primaries : values_of (primary_group schema) a ≡ values_of (primary_group schema) b
  pub members : values_of (member schema) a ≡ values_of (member schema) b
  pub types : values_of (attr_place schema (codes "groupType")) a ≡ values_of (attr_place schema (codes "groupType")) b
  pub histories : values_of (attr_place schema (codes "sIDHistory")) a
      ≡ values_of (attr_place schema (codes "sIDHistory")) b

-- Two directories have one schema, and under each number objects with the same values of these, or none.
pub record AgreeOnTokens (dir other : Directory) : Type 0 where
  pub schema : other.schema ≡ dir.schema
  pub values : (number : ℕ) → HaveSameValues dir.schema (object_at dir.objects number) (object_at other.objects number)

-- ---- a Modify that names none of them

abbrev pub names_it : List ActItem → Option ℕ → Bool
names_it items None = false
names_it items (Some attr) = is_item_named items attr

pub record NamesNone (schema : List SchemaRecord) (items : List ActItem) : Type 0 where
  pub sids : names_it items (object_sid schema) ≡ false
  pub primaries : names_it items (primary_group schema) ≡ false
  pub members : names_it items (member schema) ≡ false
  pub types : names_it items (attr_place schema (codes "groupType")) ≡ false
  pub histories : names_it items (attr_place schema (codes "sIDHistory")) ≡ false
