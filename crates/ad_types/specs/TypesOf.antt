-- The path of an attribute, and the tree of attributes, in a schema.
use Rattle.std.specs.Prelude.{◌≡◌, ℕ, suc, ◌+◌, ◌<◌, true, length, List, [], ◌∷◌, ◌++◌, Option, None, Some, map}
use Rattle.std.specs.Prelude.{filter_map, position, slice_get, if◌then◌else◌}
use Rattle.std.specs.List.{list_any}
use Rattle.std.specs.Option.{option_map_or, option_and_then, option_to_list}
use Rattle.ad_ids.specs.declared.guid.Guid.{Guid}
use Rattle.ad_schema.specs.declared.line.SchemaRecord.{SchemaRecord}
use Rattle.ad_schema.specs.declared.info.AttrId.{AttrId}
use Rattle.ad_schema.specs.declared.info.ClassId.{ClassId}
use Rattle.ad_schema.specs.declared.info.AttrInfo.{AttrInfo}
use Rattle.ad_schema.specs.Attributes.{attrs_of}
use Rattle.ad_ids.specs.Guid.{same_guid}
use Rattle.ad_schema.specs.Classes.{classes_of}
use Rattle.ad_types.specs.declared.type_tree.Node.{Node}
use Rattle.ad_types.specs.Tree.{is_leaf, path_at}

-- ---- paths

-- the class's GUID, that of the attribute's property set where it has one, and the attribute's
abbrev pub attr_path : Guid → AttrInfo → List Guid
attr_path class info = class ∷ option_to_list info.set ++ info.guid ∷ []

-- what the class and the attribute of these ids give
abbrev pub path_of : List SchemaRecord → ClassId → AttrId → List Guid
path_of records class attr =
    option_map_or (λ c. option_map_or (λ info. attr_path c.guid info) (slice_get (attrs_of records) attr.0) [])
    (slice_get (classes_of records) class.0) []

-- ---- trees

-- the attributes of these ids, in order
unfoldable pub infos_at : List SchemaRecord → List AttrId → List AttrInfo
infos_at records ids = filter_map (λ id. slice_get (attrs_of records) id.0) ids

-- the sets seen so far, with one more where it is new
unfoldable pub with_set : List Guid → Option Guid → List Guid
with_set seen None = seen
with_set seen (Some set) = if list_any (λ other. same_guid other set) seen then seen else seen ++ set ∷ []

-- the property sets of attributes by first use, after those seen before
unfoldable pub sets_behind : List Guid → List AttrInfo → List Guid
sets_behind seen [] = seen
sets_behind seen (info ∷ infos) = sets_behind (with_set seen info.set) infos

-- the node of the class, those of the sets below it, and those of the attributes, each below its set, or below the
-- class where it has none
abbrev pub class_node : Guid → Node
class_node class = record { guid = class; above = None }

abbrev pub set_node : Guid → Node
set_node set = record { guid = set; above = Some 0 }

unfoldable pub above_attr : List Guid → Option Guid → ℕ
above_attr sets set = option_map_or (λ place. suc place)
    (option_and_then (λ own. position (λ other. same_guid other own) sets) set) 0

abbrev pub attr_node : List Guid → AttrInfo → Node
attr_node sets info = record { guid = info.guid; above = Some (above_attr sets info.set) }

abbrev pub nodes_of : Guid → List Guid → List AttrInfo → List Node
nodes_of class sets infos = (class_node class ∷ map set_node sets) ++ map (attr_node sets) infos

-- The tree of attributes of a class: the class, then the sets by first use, then the attributes in order.
abbrev pub tree_of : List SchemaRecord → ClassId → List AttrId → List Node
tree_of records class ids =
    option_map_or (λ c. nodes_of c.guid (sets_behind [] (infos_at records ids)) (infos_at records ids))
    (slice_get (classes_of records) class.0) []

-- the sets of the attributes of these ids, by first use
abbrev pub sets_of : List SchemaRecord → List AttrId → List Guid
sets_of records ids = sets_behind [] (infos_at records ids)

-- In the tree of attributes of a class, after the class and the sets, stands for each attribute a leaf whose path
-- is the attribute's.
pub record HasLeaves (records : List SchemaRecord) (class : ClassId) (ids : List AttrId) : Type 0 where
  pub long : length (tree_of records class ids) ≡ 1 + length (sets_of records ids) + length ids
  pub leaf : (i : ℕ) → i < length ids → is_leaf (tree_of records class ids) (1 + length (sets_of records ids) + i)
      ≡ true
  pub path : (i : ℕ) (id : AttrId) → slice_get ids i ≡ Some id
      → path_at (tree_of records class ids) (1 + length (sets_of records ids) + i) ≡ path_of records class id
