-- What a request needs that a question is about, and for which objects it can be.
use Rattle.std.specs.Prelude.{ℕ, Bool, true, false, not, ◌==◌, ◌&&◌, if◌then◌else◌, Option, Some, None, codes, slice_get}
use Rattle.std.specs.Prelude.{List, [], ◌∷◌}
use Rattle.std.specs.Option.{option_map_or}
use Rattle.ad_acl.specs.Mask.{list_children, self_write, read_property, write_property, list_object, control_access}
use Rattle.ad_acl.specs.Mask.{delete_child, create_child, delete_object, read_control, write_dac, write_owner}
use Rattle.ad_acl.specs.Mask.{access_system_security}
use Rattle.ad_schema.specs.declared.line.SchemaRecord.{SchemaRecord}
use Rattle.ad_schema.specs.declared.info.AttrInfo.{AttrInfo}
use Rattle.ad_schema.specs.Attributes.{attrs_of}
use Rattle.ad_schema.specs.Classes as class
use Rattle.ad_schema_defaults.specs.NewClass.{is_structural, is_schema_class}
use Rattle.ad_constructed.specs.Listed.{is_replaceable}
use Rattle.ad_dir_model.specs.Objects.{parent_at}
use Rattle.ad_dir_model.specs.Tree.{root}
use Rattle.ad_dir_model.specs.Attributes.{attr_place, member}
use Rattle.ad_dir_model.specs.Settings.{list_object_mode}
use Rattle.ad_dir_model.specs.Directory.{Directory}
use Rattle.ad_access_dir.specs.Passwords.{is_password, force_change}
use Rattle.ad_needs_rules.specs.Needs.{Alternative, needs}
use Rattle.ad_needs_rules.specs.Requests.{class_at, class_path, attr_path}
use Rattle.ad_needs_rules.specs.Validated.{self_membership}
use Rattle.ad_entries.specs.Seen.{is_never_read}
use Rattle.ad_questions.specs.declared.question.Question.{Question}
use Rattle.ad_questions.specs.declared.question.Question.TheVariants as question
use Rattle.ad_questions.specs.Asked.{path_at}

-- ---- attributes

-- the attribute of this place is one of the schema that passes the test
unfoldable pub passes : List SchemaRecord → (AttrInfo → Bool) → ℕ → Bool
passes schema test attr = option_map_or test (slice_get (attrs_of schema) attr) false

-- values of it are shown to who may read them
abbrev pub is_shown : AttrInfo → Bool
is_shown info = not (is_never_read info.name)

abbrev pub is_confidential : AttrInfo → Bool
is_confidential info = info.confidential

abbrev pub is_secret : AttrInfo → Bool
is_secret info = is_password info.name

-- ---- which objects a request can be for

-- Objects of the class may have the attribute, and its values can be replaced.
abbrev pub is_written : List SchemaRecord → ℕ → ℕ → AttrInfo → Bool
is_written schema of attr info = class.is_allowed schema of attr && is_replaceable schema of attr info

-- objects of the class may have the attribute, where there is one
unfoldable pub has : List SchemaRecord → ℕ → Option ℕ → Bool
has schema of attr = option_map_or (class.is_allowed schema of) attr false

-- Objects may have the class, it is none of those that describe a schema, and its objects may stand below one of the
-- class above.
unfoldable pub is_added : List SchemaRecord → ℕ → ℕ → Bool
is_added schema above of = is_structural schema of && not (is_schema_class schema of) && class.is_under schema of above

-- The request can be for this object. A plain right, to see and to read the descriptor are for each, and so are a new
-- DACL and a new owner; the root can't be deleted; for the others the object's class decides.
unfoldable pub is_for : Directory → Question → ℕ → Bool
is_for dir (question.Right asked) number = true
is_for dir question.See number = true
is_for dir (question.Read attr) number = passes dir.schema is_shown attr.0
is_for dir question.ReadDescriptor number = true
is_for dir (question.Write attr) number = passes dir.schema (is_written dir.schema (class_at dir number) attr.0) attr.0
is_for dir question.Reset number = has dir.schema (class_at dir number) (attr_place dir.schema (codes "unicodePwd"))
is_for dir question.Join number = has dir.schema (class_at dir number) (member dir.schema)
is_for dir (question.Add of) number = is_added dir.schema (class_at dir number) of.0
is_for dir question.Delete number = not (number == root)
is_for dir question.Dacl number = true
is_for dir question.Owner number = true

-- ---- to see

-- To list the children of the parent; or, in list-object mode, to list the object on the parent and on the object
-- itself.
abbrev pub listed_needs : Bool → ℕ → ℕ → List (List Alternative)
listed_needs false parent number = (needs parent list_children [] ∷ []) ∷ []
listed_needs true parent number =
    (needs parent list_children [] ∷ needs parent list_object [] ∷ [])
    ∷ (needs parent list_children [] ∷ needs number list_object [] ∷ [])
    ∷ []

-- The root is seen by all.
unfoldable pub see_needs : Directory → ℕ → List (List Alternative)
see_needs dir number = if number == root then [] else listed_needs (list_object_mode dir)
    (parent_at dir.objects number) number

abbrev pub is_right : Question → Bool
is_right (question.Right asked) = true
is_right question.See = false
is_right (question.Read attr) = false
is_right question.ReadDescriptor = false
is_right (question.Write attr) = false
is_right question.Reset = false
is_right question.Join = false
is_right (question.Add of) = false
is_right question.Delete = false
is_right question.Dacl = false
is_right question.Owner = false

-- All but a plain right is asked of an object that is seen.
unfoldable pub sight_needs : Directory → Question → ℕ → List (List Alternative)
sight_needs dir question number = if is_right question then [] else see_needs dir number

-- ---- what is asked for

-- RP on the attribute, and CR too where it is confidential
abbrev pub if_confidential : Bool → List Alternative → List (List Alternative)
if_confidential false requirement = []
if_confidential true requirement = requirement ∷ []

unfoldable pub read_needs : Directory → ℕ → ℕ → List (List Alternative)
read_needs dir number attr =
    (needs number read_property (attr_path dir.schema (class_at dir number) attr) ∷ [])
    ∷ if_confidential (passes dir.schema is_confidential attr)
    (needs number control_access (attr_path dir.schema (class_at dir number) attr) ∷ [])

-- RC for owner, group and DACL, or AS for the SACL
abbrev pub descriptor_read : ℕ → List Alternative
descriptor_read number = needs number read_control [] ∷ needs number access_system_security [] ∷ []

-- CR on the right to set a password without the old one
abbrev pub to_reset : ℕ → List Alternative
to_reset number = needs number control_access (force_change ∷ []) ∷ []

-- WP on the attribute, and for a password what resets it
abbrev pub write_needs : Directory → ℕ → ℕ → Bool → List Alternative
write_needs dir number attr false = needs number write_property (attr_path dir.schema (class_at dir number) attr) ∷ []
write_needs dir number attr true = to_reset number

-- WP on the attribute that holds members, or SW on the validated write by which one adds oneself
abbrev pub join_needs : Directory → ℕ → Option ℕ → List Alternative
join_needs dir number None = []
join_needs dir number (Some attr) =
    needs number write_property (attr_path dir.schema (class_at dir number) attr)
    ∷ needs number self_write (self_membership ∷ [])
    ∷ []

-- SD on the object, or DC on its parent for its class
abbrev pub to_delete : Directory → ℕ → List Alternative
to_delete dir number =
    needs number delete_object []
    ∷ needs (parent_at dir.objects number) delete_child (class_path dir.schema (class_at dir number))
    ∷ []

-- of each question, where the request can be for the object
unfoldable pub request_needs : Directory → Question → ℕ → List (List Alternative)
request_needs dir (question.Right asked) number = (needs number asked.bit (path_at dir number asked.on) ∷ []) ∷ []
request_needs dir question.See number = []
request_needs dir (question.Read attr) number = read_needs dir number attr.0
request_needs dir question.ReadDescriptor number = descriptor_read number ∷ []
request_needs dir (question.Write attr) number = write_needs dir number attr.0 (passes dir.schema is_secret attr.0) ∷ []
request_needs dir question.Reset number = to_reset number ∷ []
request_needs dir question.Join number = join_needs dir number (member dir.schema) ∷ []
request_needs dir (question.Add of) number = (needs number create_child (class_path dir.schema of.0) ∷ []) ∷ []
request_needs dir question.Delete number = to_delete dir number ∷ []
request_needs dir question.Dacl number = (needs number write_dac [] ∷ []) ∷ []
request_needs dir question.Owner number = (needs number write_owner [] ∷ []) ∷ []
