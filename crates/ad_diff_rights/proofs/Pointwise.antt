-- What rights there are depends on nothing but what is granted, right by right.
use Rattle.std.proofs.Common.{◌≡◌, ◌∙◌, ℕ, zero, suc, Bool, Option, Some, None, List, [], ◌∷◌, ◌++◌}
use Rattle.std.proofs.Common.{length, refl, ap}
use Rattle.std.specs.Prelude.{if◌then◌else◌, ◌==◌, slice_get, codes}
use Rattle.std.specs.List.{flat_map}
use Rattle.std.specs.Option.{option_map_or}
use Rattle.ad_ids.specs.declared.guid.Guid.{Guid}
use Rattle.ad_schema.specs.declared.line.SchemaRecord.{SchemaRecord}
use Rattle.ad_schema.specs.declared.info.AttrId.{AttrId}
use Rattle.ad_schema.specs.declared.info.AttrInfo.{AttrInfo}
use Rattle.ad_schema.specs.declared.info.ClassId.{ClassId}
use Rattle.ad_schema.specs.declared.info.ClassInfo.{ClassInfo}
use Rattle.ad_schema.specs.declared.info.RightInfo.{RightInfo}
use Rattle.ad_schema.specs.Attributes.{attrs_of, rights_of}
use Rattle.ad_schema.specs.Classes.{classes_of}
use Rattle.ad_types.specs.TypesOf.{path_of}
use Rattle.ad_access_dir.specs.Allowed.{allowed_attrs, applies, is_child_class}
use Rattle.ad_access_dir.specs.Labels.{label_of, right_title}
use Rattle.ad_acl.specs.declared.codes.Code.{Code}
use Rattle.ad_diff_rights.specs.Rights.{object_codes, attribute_codes, extended_codes, validated_codes, child_codes}
use Rattle.ad_diff_rights.specs.Rights.{label_if}
use Rattle.ad_diff_rights.specs.Rights.{labels, object_labels, attribute_labels, kind_labels, right_labels}
use Rattle.ad_diff_rights.specs.Rights.{child_labels}
use Rattle.ad_diff_rights.specs.Rights.{children_labels, rights_by}

flat_same : {A B : Type 0} (f g : A → List B) (xs : List A) → ((x : A) → f x ≡ g x) → flat_map f xs ≡ flat_map g xs
flat_same f g [] same = refl
flat_same {B} f g (x ∷ xs) same =
    ap (λ (bs : List B). bs ++ flat_map f xs) (same x) ∙ ap (λ (bs : List B). g x ++ bs) (flat_same f g xs same)

same_labels : (f g : ℕ → Bool) (kind : List ℕ) (all : List Code) → ((bit : ℕ) → f bit ≡ g bit)
    → labels f kind all ≡ labels g kind all
unfolding labels
same_labels f g kind all same = flat_same (label_if f kind) (label_if g kind) all
    (λ code. ap (λ (b : Bool). if b then (kind ++ code.letters) ∷ [] else []) (same code.place))

same_object : (f g : List Guid → ℕ → Bool) → ((path : List Guid) (bit : ℕ) → f path bit ≡ g path bit)
    → object_labels f ≡ object_labels g
unfolding object_labels
same_object f g same = same_labels (f []) (g []) (codes "object ") object_codes (same [])

same_attribute : (schema : List SchemaRecord) (f g : List Guid → ℕ → Bool) (class : ClassId) (id : AttrId)
    → ((path : List Guid) (bit : ℕ) → f path bit ≡ g path bit)
    → attribute_labels schema f class id ≡ attribute_labels schema g class id
unfolding attribute_labels
same_attribute schema f g class id same = by (slice_get (attrs_of schema) id.0)
  where
    by : (found : Option AttrInfo) → option_map_or (λ (info : AttrInfo). labels (f (path_of schema class id))
        (label_of (codes "attribute ") info.name) attribute_codes) found []
        ≡ option_map_or (λ (info : AttrInfo). labels (g (path_of schema class id))
        (label_of (codes "attribute ") info.name) attribute_codes) found []
    by None = refl
    by (Some info) = same_labels (f (path_of schema class id)) (g (path_of schema class id))
        (label_of (codes "attribute ") info.name) attribute_codes (same (path_of schema class id))

same_kind : (f g : List Guid → ℕ → Bool) (r : RightInfo) → ((path : List Guid) (bit : ℕ) → f path bit ≡ g path bit)
    → kind_labels f r ≡ kind_labels g r
unfolding kind_labels
same_kind f g r same =
    ap (λ (t : List (List ℕ)). if r.accesses == 256 then t else (if r.accesses == 8
    then labels (f (r.guid ∷ [])) (label_of (codes "validated ") (right_title r)) validated_codes else []))
    (same_labels (f (r.guid ∷ [])) (g (r.guid ∷ [])) (label_of (codes "right ") (right_title r)) extended_codes
    (same (r.guid ∷ [])))
    ∙ ap (λ (t : List (List ℕ)). if r.accesses == 256
    then labels (g (r.guid ∷ [])) (label_of (codes "right ") (right_title r)) extended_codes
    else (if r.accesses == 8 then t else []))
    (same_labels (f (r.guid ∷ [])) (g (r.guid ∷ [])) (label_of (codes "validated ") (right_title r)) validated_codes
    (same (r.guid ∷ [])))

same_right : (schema : List SchemaRecord) (f g : List Guid → ℕ → Bool) (class : ClassId) (r : RightInfo)
    → ((path : List Guid) (bit : ℕ) → f path bit ≡ g path bit)
    → right_labels schema f class r ≡ right_labels schema g class r
unfolding right_labels
same_right schema f g class r same =
    ap (λ (t : List (List ℕ)). if applies schema class.0 r.applies then t else []) (same_kind f g r same)

same_child : (schema : List SchemaRecord) (f g : List Guid → ℕ → Bool) (class : ClassId) (place : ℕ)
    → ((path : List Guid) (bit : ℕ) → f path bit ≡ g path bit)
    → child_labels schema f class place ≡ child_labels schema g class place
unfolding child_labels
same_child schema f g class place same = by (slice_get (classes_of schema) place)
  where
    by : (found : Option ClassInfo) → option_map_or (λ (info : ClassInfo). if is_child_class schema class.0 place info
        then labels (f (info.guid ∷ [])) (label_of (codes "child ") info.name) child_codes else []) found []
        ≡ option_map_or (λ (info : ClassInfo). if is_child_class schema class.0 place info
        then labels (g (info.guid ∷ [])) (label_of (codes "child ") info.name) child_codes else []) found []
    by None = refl
    by (Some info) = ap (λ (t : List (List ℕ)). if is_child_class schema class.0 place info then t else [])
        (same_labels (f (info.guid ∷ [])) (g (info.guid ∷ [])) (label_of (codes "child ") info.name) child_codes
        (same (info.guid ∷ [])))

same_children : (schema : List SchemaRecord) (f g : List Guid → ℕ → Bool) (class : ClassId) (n : ℕ)
    → ((path : List Guid) (bit : ℕ) → f path bit ≡ g path bit)
    → children_labels schema f class n ≡ children_labels schema g class n
unfolding children_labels
same_children schema f g class zero same = refl
same_children schema f g class (suc n) same =
    ap (λ (t : List (List ℕ)). t ++ child_labels schema f class n) (same_children schema f g class n same)
    ∙ ap (λ (t : List (List ℕ)). children_labels schema g class n ++ t) (same_child schema f g class n same)

pub same_by : (schema : List SchemaRecord) (f g : List Guid → ℕ → Bool) (class : ClassId)
    → ((path : List Guid) (bit : ℕ) → f path bit ≡ g path bit) → rights_by schema f class ≡ rights_by schema g class
unfolding rights_by
same_by schema f g class same =
    let attributes = λ (grants : List Guid → ℕ → Bool). flat_map (attribute_labels schema grants class)
    (allowed_attrs schema class.0) in
    let kinds = λ (grants : List Guid → ℕ → Bool). flat_map (right_labels schema grants class) (rights_of schema) in
    let children = λ (grants : List Guid → ℕ → Bool). children_labels schema grants class
    (length (classes_of schema)) in
    ap (λ (t : List (List ℕ)). t ++ (attributes f ++ (kinds f ++ children f))) (same_object f g same)
    ∙ ap (λ (t : List (List ℕ)). object_labels g ++ (t ++ (kinds f ++ children f)))
    (flat_same (attribute_labels schema f class) (attribute_labels schema g class) (allowed_attrs schema class.0)
    (λ id. same_attribute schema f g class id same))
    ∙ ap (λ (t : List (List ℕ)). object_labels g ++ (attributes g ++ (t ++ children f)))
    (flat_same (right_labels schema f class) (right_labels schema g class) (rights_of schema)
    (λ r. same_right schema f g class r same))
    ∙ ap (λ (t : List (List ℕ)). object_labels g ++ (attributes g ++ (kinds g ++ t)))
    (same_children schema f g class (length (classes_of schema)) same)
