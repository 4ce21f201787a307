-- What a token may do at an object, line by line. A code stands in a line exactly where its right is granted.
use Rattle.std.specs.Prelude.{ℕ, zero, suc, ◌^◌, Bool, false, ◌==◌, if◌then◌else◌, List, [], ◌∷◌, ◌++◌}
use Rattle.std.specs.Prelude.{codes, length, filter, slice_get}
use Rattle.std.specs.List.{flat_map}
use Rattle.std.specs.Option.{option_map_or}
use Rattle.ad_ids.specs.declared.guid.Guid.{Guid}
use Rattle.ad_ids.specs.Guid.{same_guid}
use Rattle.ad_ids.specs.declared.token.Token.{Token}
use Rattle.ad_acl.specs.Mask.{create_child, delete_child, list_children, self_write, read_property, write_property}
use Rattle.ad_acl.specs.Mask.{delete_tree}
use Rattle.ad_acl.specs.Mask.{list_object, control_access, delete_object, read_control, write_dac, write_owner}
use Rattle.ad_acl.specs.Codes.{right_codes}
use Rattle.ad_sddl.specs.Canonical.{codes_text}
use Rattle.ad_schema.specs.declared.line.SchemaRecord.{SchemaRecord}
use Rattle.ad_schema.specs.declared.info.AttrId.{AttrId}
use Rattle.ad_schema.specs.declared.info.AttrInfo.{AttrInfo}
use Rattle.ad_schema.specs.declared.info.ClassId.{ClassId}
use Rattle.ad_schema.specs.declared.info.ClassInfo.{ClassInfo}
use Rattle.ad_schema.specs.declared.info.RightInfo.{RightInfo}
use Rattle.ad_schema.specs.Attributes.{attrs_of, rights_of}
use Rattle.ad_schema.specs.Classes.{classes_of}
use Rattle.ad_types.specs.TypesOf.{path_of, tree_of}
use Rattle.ad_access.specs.Tree.{node_granted}
use Rattle.ad_dir_model.specs.Directory.{Directory}
use Rattle.ad_dir_model.specs.Objects.{object_at, sd_at}
use Rattle.ad_dir_model.specs.Identity.{self_sid}
use Rattle.ad_access_dir.specs.Sight.{is_granted}
use Rattle.ad_access_dir.specs.Allowed.{allowed_attrs, applies, is_child_class}
use Rattle.ad_access_dir.specs.Labels.{label_of, right_title}
use Rattle.ad_dsacls.specs.Words.{labelled}

-- ---- codes

-- the letters of the right at a place of a mask, as in the text of a descriptor
unfoldable pub code_of : ℕ → List ℕ
code_of bit = codes_text right_codes (2 ^ bit)

-- those of the rights that are granted among these
unfoldable pub granted_codes : (ℕ → Bool) → List ℕ → List ℕ
granted_codes grants rights = flat_map (λ bit. if grants bit then code_of bit else []) rights

-- what is asked for of an object, of an attribute, of a property set, and of the children of a class
abbrev pub object_rights : List ℕ
object_rights =
    create_child ∷ delete_child ∷ list_children ∷ self_write ∷ read_property ∷ write_property ∷ delete_tree
    ∷ list_object ∷ control_access
    ∷ delete_object ∷ read_control ∷ write_dac ∷ write_owner ∷ []

abbrev pub attribute_rights : List ℕ
attribute_rights = read_property ∷ write_property ∷ control_access ∷ []

abbrev pub set_rights : List ℕ
set_rights = read_property ∷ write_property ∷ []

abbrev pub child_rights : List ℕ
child_rights = create_child ∷ delete_child ∷ []

-- ---- lines

-- a line, where at least one code stands in it
abbrev pub line_of : List ℕ → List ℕ → List ℕ
line_of label [] = []
line_of label (b ∷ bytes) = labelled label (b ∷ bytes)

-- the object as a whole
unfoldable pub object_line : Directory → Token → ℕ → List ℕ
object_line dir token number = line_of (codes "object ") (granted_codes (is_granted dir token number []) object_rights)

-- ---- attributes

-- an attribute, by its path
unfoldable pub attribute_line : Directory → Token → ℕ → ClassId → AttrId → List ℕ
attribute_line dir token number class id = option_map_or
    (λ (info : AttrInfo). line_of (label_of (codes "attribute ") info.name)
    (granted_codes (is_granted dir token number (path_of dir.schema class id)) attribute_rights))
    (slice_get (attrs_of dir.schema) id.0) []

-- ---- rights

abbrev pub has_set : Guid → AttrInfo → Bool
has_set set info = option_map_or (λ own. same_guid own set) info.set false

-- the attribute belongs to the property set
abbrev pub is_of_set : List SchemaRecord → Guid → AttrId → Bool
is_of_set schema set id = option_map_or (has_set set) (slice_get (attrs_of schema) id.0) false

-- those of the set that objects of the class may have
abbrev pub set_attrs : List SchemaRecord → ℕ → Guid → List AttrId
set_attrs schema class set = filter (is_of_set schema set) (allowed_attrs schema class)

-- the path of a class and a set
abbrev pub set_path : List SchemaRecord → ClassId → Guid → List Guid
set_path schema class set = option_map_or (λ (c : ClassInfo). c.guid ∷ set ∷ [])
    (slice_get (classes_of schema) class.0) []

-- A right on a set is judged at the node of the set, the second one in the tree of these attributes, and where
-- there are none on the path of the class and the set.
unfoldable pub set_grants : Directory → Token → ℕ → ClassId → Guid → List AttrId → ℕ → Bool
set_grants dir token number class set [] bit = is_granted dir token number (set_path dir.schema class set) bit
set_grants dir token number class set (id ∷ ids) bit =
    node_granted (sd_at dir.objects number) token (self_sid dir number) (tree_of dir.schema class (id ∷ ids)) 1 bit

abbrev pub set_line : Directory → Token → ℕ → ClassId → RightInfo → List ℕ
set_line dir token number class r =
    line_of (label_of (codes "set ") (right_title r))
    (granted_codes (set_grants dir token number class r.guid (set_attrs dir.schema class.0 r.guid)) set_rights)

-- an extended right and a validated write are judged on their own path
abbrev pub extended_line : Directory → Token → ℕ → RightInfo → List ℕ
extended_line dir token number r = line_of (label_of (codes "right ") (right_title r))
    (granted_codes (is_granted dir token number (r.guid ∷ [])) (control_access ∷ []))

abbrev pub validated_line : Directory → Token → ℕ → RightInfo → List ℕ
validated_line dir token number r = line_of (label_of (codes "validated ") (right_title r))
    (granted_codes (is_granted dir token number (r.guid ∷ [])) (self_write ∷ []))

-- by what the right is: a property set, an extended right or a validated write
unfoldable pub kind_line : Directory → Token → ℕ → ClassId → RightInfo → List ℕ
kind_line dir token number class r =
    if r.accesses == 48 then set_line dir token number class r
    else (if r.accesses == 256 then extended_line dir token number r
    else (if r.accesses == 8 then validated_line dir token number r
    else []))

unfoldable pub right_line : Directory → Token → ℕ → ClassId → RightInfo → List ℕ
right_line dir token number class r = if applies dir.schema class.0 r.applies then kind_line dir token number class r
    else []

-- ---- children

-- a structural class whose objects may stand below, on the path of that class
unfoldable pub child_line : Directory → Token → ℕ → ClassId → ℕ → List ℕ
child_line dir token number class place = option_map_or
    (λ (info : ClassInfo). if is_child_class dir.schema class.0 place info
    then line_of (label_of (codes "child ") info.name)
    (granted_codes (is_granted dir token number (info.guid ∷ [])) child_rights) else [])
    (slice_get (classes_of dir.schema) place) []

-- those of the first n classes
unfoldable pub child_lines : Directory → Token → ℕ → ClassId → ℕ → List ℕ
child_lines dir token number class zero = []
child_lines dir token number class (suc n) = child_lines dir token number class n ++ child_line dir token number class n

-- ---- all

-- of an object of a class
unfoldable pub effective_of : Directory → Token → ℕ → ClassId → List ℕ
effective_of dir token number class =
    object_line dir token number
    ++ (flat_map (attribute_line dir token number class) (allowed_attrs dir.schema class.0)
    ++ (flat_map (right_line dir token number class) (rights_of dir.schema)
    ++ child_lines dir token number class (length (classes_of dir.schema))))

abbrev pub effective_text : Directory → Token → ℕ → List ℕ
effective_text dir token number = effective_of dir token number (record { 0 = (object_at dir.objects number).class })
