-- What may be changed at two objects of one class at which the same is granted, of two directories of one schema.
use Rattle.std.proofs.Common.{◌≡◌, ℕ, Bool, false, ◌&&◌, List, [], ◌∷◌, Option, Some, None, length, refl, sym, ap, ◌∙◌}
use Rattle.std.specs.Prelude.{slice_get, decimal, if◌then◌else◌}
use Rattle.std.specs.Option.{option_map_or}
use Rattle.ad_ids.specs.declared.guid.Guid.{Guid}
use Rattle.ad_ids.specs.declared.token.Token.{Token}
use Rattle.ad_acl.specs.Mask.{write_property, control_access, create_child, write_owner, write_dac}
use Rattle.ad_acl.specs.Mask.{access_system_security}
use Rattle.ad_schema.specs.declared.line.SchemaRecord.{SchemaRecord}
use Rattle.ad_schema.specs.declared.info.AttrInfo.{AttrInfo}
use Rattle.ad_schema.specs.declared.info.ClassInfo.{ClassInfo}
use Rattle.ad_schema.specs.Attributes.{attrs_of}
use Rattle.ad_schema.specs.Classes.{classes_of, is_allowed}
use Rattle.ad_types.specs.TypesOf.{path_of}
use Rattle.ad_constructed.specs.Rights.{parts_of}
use Rattle.ad_constructed.specs.Listed.{attributes, children}
use Rattle.ad_dir_model.specs.Objects.{object_at}
use Rattle.ad_dir_model.specs.Directory.{Directory}
use Rattle.ad_access_dir.specs.Sight.{is_granted}
use Rattle.ad_access_dir.specs.Passwords.{is_password, force_change}
use Rattle.ad_constructed_dir.specs.Changing.{Changing, is_writer, may_write, may_create, rights_at, changing_of}
use Rattle.ad_constructed_dir.proofs.ChangingLaws.{attributes_alike, children_alike, parts_alike}

module _ (dir other : Directory) (token : Token) (n m : ℕ) (same_schema : other.schema ≡ dir.schema)
    (same_class : (object_at dir.objects n).class ≡ (object_at other.objects m).class)
    (granted_so : (path : List Guid) (bit : ℕ) → is_granted dir token n path bit ≡ is_granted other token m path bit)
  where
    path_at : List SchemaRecord → ℕ → ℕ → List Guid
    path_at schema class place = path_of schema (record { 0 = class }) (record { 0 = place })

    writer_so : (place : ℕ) (info : AttrInfo) → is_writer dir token n place info ≡ is_writer other token m place info
    unfolding path_at
    writer_so place info =
        ap (λ (b : Bool). if is_password info.name then b else is_granted dir token n
        (path_at dir.schema (object_at dir.objects n).class place) write_property)
        (granted_so (force_change ∷ []) control_access)
        ∙ ap (λ (b : Bool). if is_password info.name then is_granted other token m (force_change ∷ []) control_access
        else b)
        (granted_so (path_at dir.schema (object_at dir.objects n).class place) write_property
        ∙ ap (λ (c : ℕ). is_granted other token m (path_at dir.schema c place) write_property) same_class
        ∙ ap (λ (s : List SchemaRecord). is_granted other token m (path_at s (object_at other.objects m).class place)
        write_property) (sym same_schema))

    write_so : (place : ℕ) → may_write dir token n place ≡ may_write other token m place
    unfolding may_write
    write_so place =
        by_info (slice_get (attrs_of dir.schema) place)
        ∙ ap (λ (s : List SchemaRecord). option_map_or (is_writer other token m place) (slice_get (attrs_of s) place)
        false) (sym same_schema)
      where
        by_info : (found : Option AttrInfo) → option_map_or (is_writer dir token n place) found false
            ≡ option_map_or (is_writer other token m place) found false
        by_info None = refl
        by_info (Some info) = writer_so place info

    create_so : (place : ℕ) → may_create dir token n place ≡ may_create other token m place
    unfolding may_create
    create_so place =
        by_info (slice_get (classes_of dir.schema) place)
        ∙ ap (λ (s : List SchemaRecord). option_map_or
        (λ (info : ClassInfo). is_granted other token m (info.guid ∷ []) create_child)
        (slice_get (classes_of s) place) false)
        (sym same_schema)
      where
        by_info : (found : Option ClassInfo)
            → option_map_or (λ (info : ClassInfo). is_granted dir token n (info.guid ∷ []) create_child) found false
            ≡ option_map_or (λ (info : ClassInfo). is_granted other token m (info.guid ∷ []) create_child) found false
        by_info None = refl
        by_info (Some info) = granted_so (info.guid ∷ []) create_child

    attributes_so : attributes dir.schema (object_at dir.objects n).class (rights_at dir token n)
        ≡ attributes other.schema (object_at other.objects m).class (rights_at other token m)
    attributes_so =
        ap (λ (c : ℕ). attributes dir.schema c (rights_at dir token n)) same_class
        ∙ attributes_alike dir.schema (object_at other.objects m).class (rights_at dir token n)
        (rights_at other token m) (length (attrs_of dir.schema))
        (λ place lt. ap (λ (b : Bool). is_allowed dir.schema (object_at other.objects m).class place && b)
        (write_so place))
        ∙ ap (λ (s : List SchemaRecord). attributes s (object_at other.objects m).class (rights_at other token m))
        (sym same_schema)

    children_so : children dir.schema (object_at dir.objects n).class (rights_at dir token n)
        ≡ children other.schema (object_at other.objects m).class (rights_at other token m)
    children_so =
        ap (λ (c : ℕ). children dir.schema c (rights_at dir token n)) same_class
        ∙ children_alike dir.schema (object_at other.objects m).class (rights_at dir token n) (rights_at other token m)
        (length (classes_of dir.schema)) create_so
        ∙ ap (λ (s : List SchemaRecord). children s (object_at other.objects m).class (rights_at other token m))
        (sym same_schema)

    parts_so : decimal (parts_of (rights_at dir token n)) ∷ [] ≡ decimal (parts_of (rights_at other token m)) ∷ []
    parts_so = ap (λ (k : ℕ). decimal k ∷ []) (parts_alike (rights_at dir token n) (rights_at other token m)
        (granted_so [] write_owner) (granted_so [] write_dac) (granted_so [] access_system_security))

    made_of : List (List ℕ) → List (List ℕ) → List (List ℕ) → Changing
    made_of written created parts = record { attributes = written; children = created; parts = parts }

    pub changing_same : changing_of dir token n ≡ changing_of other token m
    unfolding changing_of made_of
    changing_same =
        ap (λ (vs : List (List ℕ)). made_of vs
        (children dir.schema (object_at dir.objects n).class (rights_at dir token n))
        (decimal (parts_of (rights_at dir token n)) ∷ [])) attributes_so
        ∙ ap (λ (vs : List (List ℕ)). made_of
        (attributes other.schema (object_at other.objects m).class (rights_at other token m)) vs
        (decimal (parts_of (rights_at dir token n)) ∷ [])) children_so
        ∙ ap (made_of (attributes other.schema (object_at other.objects m).class (rights_at other token m))
        (children other.schema (object_at other.objects m).class (rights_at other token m))) parts_so

-- the same of two objects of one directory
pub changing_so : (dir : Directory) (token : Token) (n m : ℕ)
    → (object_at dir.objects n).class ≡ (object_at dir.objects m).class
    → ((path : List Guid) (bit : ℕ) → is_granted dir token n path bit ≡ is_granted dir token m path bit)
    → changing_of dir token n ≡ changing_of dir token m
changing_so dir token n m same_class granted_so = changing_same dir dir token n m refl same_class granted_so
