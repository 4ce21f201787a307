-- What a token is granted on an object, one label for each right: what `effective` lists but for the sets, which have
-- nothing that their attributes don't have.
use Rattle.std.specs.Prelude.{ℕ, zero, suc, Bool, ◌==◌, if◌then◌else◌, Option, List, [], ◌∷◌, ◌++◌, codes, length}
use Rattle.std.specs.Prelude.{slice_get}
use Rattle.std.specs.List.{flat_map}
use Rattle.std.specs.Option.{option_map_or}
use Rattle.ad_ids.specs.declared.guid.Guid.{Guid}
use Rattle.ad_ids.specs.declared.token.Token.{Token}
use Rattle.ad_ids.specs.SidValue.{SidValue}
use Rattle.ad_sd.specs.declared.parts.Sd.{Sd}
use Rattle.ad_schema.specs.declared.line.SchemaRecord.{SchemaRecord}
use Rattle.ad_acl.specs.declared.codes.Code.{Code}
use Rattle.ad_acl.specs.Codes.{a_code}
use Rattle.ad_acl.specs.Mask.{create_child, delete_child, list_children, self_write, read_property, write_property}
use Rattle.ad_acl.specs.Mask.{delete_tree, list_object, control_access, delete_object, read_control, write_dac}
use Rattle.ad_acl.specs.Mask.{write_owner}
use Rattle.ad_schema.specs.declared.info.AttrId.{AttrId}
use Rattle.ad_schema.specs.declared.info.AttrInfo.{AttrInfo}
use Rattle.ad_schema.specs.declared.info.ClassId.{ClassId}
use Rattle.ad_schema.specs.declared.info.ClassInfo.{ClassInfo}
use Rattle.ad_schema.specs.declared.info.RightInfo.{RightInfo}
use Rattle.ad_schema.specs.Attributes.{attrs_of, rights_of}
use Rattle.ad_schema.specs.Classes.{classes_of}
use Rattle.ad_types.specs.TypesOf.{path_of}
use Rattle.ad_dir_model.specs.Directory.{Directory}
use Rattle.ad_dir_model.specs.Objects.{object_at, sd_at}
use Rattle.ad_dir_model.specs.Identity.{self_sid}
use Rattle.ad_access.specs.Grant.{granted}
use Rattle.ad_access_dir.specs.Allowed.{allowed_attrs, applies, is_child_class}
use Rattle.ad_access_dir.specs.Labels.{label_of, right_title}

-- ---- codes

-- what is asked for of an object, of an attribute, of an extended right, of a validated write, and of the children of a
-- class
abbrev pub object_codes : List Code
object_codes =
    a_code (codes "CC") create_child ∷
    a_code (codes "DC") delete_child ∷
    a_code (codes "LC") list_children ∷
    a_code (codes "SW") self_write ∷
    a_code (codes "RP") read_property ∷
    a_code (codes "WP") write_property ∷
    a_code (codes "DT") delete_tree ∷
    a_code (codes "LO") list_object ∷
    a_code (codes "CR") control_access ∷
    a_code (codes "SD") delete_object ∷
    a_code (codes "RC") read_control ∷
    a_code (codes "WD") write_dac ∷
    a_code (codes "WO") write_owner ∷
    []

abbrev pub attribute_codes : List Code
attribute_codes =
    a_code (codes "RP") read_property ∷
    a_code (codes "WP") write_property ∷
    a_code (codes "CR") control_access ∷
    []

abbrev pub extended_codes : List Code
extended_codes = a_code (codes "CR") control_access ∷ []

abbrev pub validated_codes : List Code
validated_codes = a_code (codes "SW") self_write ∷ []

abbrev pub child_codes : List Code
child_codes =
    a_code (codes "CC") create_child ∷
    a_code (codes "DC") delete_child ∷
    []

-- ---- labels

-- what the right is of, and its code, where it is granted
abbrev pub label_if : (ℕ → Bool) → List ℕ → Code → List (List ℕ)
label_if grants kind code = if grants code.place then (kind ++ code.letters) ∷ [] else []

unfoldable pub labels : (ℕ → Bool) → List ℕ → List Code → List (List ℕ)
labels grants kind all = flat_map (label_if grants kind) all

-- ---- one thing each, by what is granted on which path

-- on the object as a whole
unfoldable pub object_labels : (List Guid → ℕ → Bool) → List (List ℕ)
object_labels grants = labels (grants []) (codes "object ") object_codes

-- on an attribute, by its path: to read it, to write it, and to read it where it is confidential
unfoldable pub attribute_labels : List SchemaRecord → (List Guid → ℕ → Bool) → ClassId → AttrId → List (List ℕ)
attribute_labels schema grants class id = option_map_or
    (λ (info : AttrInfo). labels (grants (path_of schema class id))
    (label_of (codes "attribute ") info.name) attribute_codes)
    (slice_get (attrs_of schema) id.0) []

-- an extended right and a validated write, on its own path
unfoldable pub kind_labels : (List Guid → ℕ → Bool) → RightInfo → List (List ℕ)
kind_labels grants r =
    if r.accesses == 256 then labels (grants (r.guid ∷ [])) (label_of (codes "right ") (right_title r)) extended_codes
    else (if r.accesses == 8
    then labels (grants (r.guid ∷ [])) (label_of (codes "validated ") (right_title r)) validated_codes
    else [])

-- where it applies to the class or one above it
unfoldable pub right_labels : List SchemaRecord → (List Guid → ℕ → Bool) → ClassId → RightInfo → List (List ℕ)
right_labels schema grants class r = if applies schema class.0 r.applies then kind_labels grants r else []

-- the children of a structural class that may stand below, on the path of that class
unfoldable pub child_labels : List SchemaRecord → (List Guid → ℕ → Bool) → ClassId → ℕ → List (List ℕ)
child_labels schema grants class place = option_map_or
    (λ (info : ClassInfo). if is_child_class schema class.0 place info
    then labels (grants (info.guid ∷ [])) (label_of (codes "child ") info.name) child_codes
    else [])
    (slice_get (classes_of schema) place) []

-- those of the first n classes
unfoldable pub children_labels : List SchemaRecord → (List Guid → ℕ → Bool) → ClassId → ℕ → List (List ℕ)
children_labels schema grants class zero = []
children_labels schema grants class (suc n) = children_labels schema grants class n
    ++ child_labels schema grants class n

-- ---- all

-- on an object of a class
unfoldable pub rights_by : List SchemaRecord → (List Guid → ℕ → Bool) → ClassId → List (List ℕ)
rights_by schema grants class =
    object_labels grants
    ++ (flat_map (attribute_labels schema grants class) (allowed_attrs schema class.0)
    ++ (flat_map (right_labels schema grants class) (rights_of schema)
    ++ children_labels schema grants class (length (classes_of schema))))

-- what the access rule grants a token by a descriptor, with the object's own identifier
abbrev pub grants_by : Sd → Token → Option SidValue → List Guid → ℕ → Bool
grants_by sd token self = granted sd.owner sd.dacl.entries token self

-- on an object, by the descriptor that is stored
abbrev pub grants_at : Directory → Token → ℕ → List Guid → ℕ → Bool
grants_at dir token number = grants_by (sd_at dir.objects number) token (self_sid dir number)

abbrev pub class_at : Directory → ℕ → ClassId
class_at dir number = record { 0 = (object_at dir.objects number).class }

unfoldable pub rights : Directory → Token → ℕ → List (List ℕ)
rights dir token number = rights_by dir.schema (grants_at dir token number) (class_at dir number)
