-- Labels that are put, by what they are.
use Rattle.std.proofs.Common.{◌≡◌, ◌∙◌, ℕ, Bool, true, false, List, [], ◌∷◌, ◌++◌, Result, OnOk, refl, ap, subst}
use Rattle.std.specs.Prelude.{codes, slice_get, Some}
use Rattle.ad_ids.specs.declared.guid.Guid.{Guid}
use Rattle.ad_acl.specs.Mask.{has_bit}
use Rattle.ad_schema.specs.declared.line.SchemaRecord.{SchemaRecord}
use Rattle.ad_schema.specs.declared.info.AttrId.{AttrId}
use Rattle.ad_schema.specs.declared.info.AttrInfo.{AttrInfo}
use Rattle.ad_schema.specs.declared.info.ClassId.{ClassId}
use Rattle.ad_schema.specs.declared.info.ClassInfo.{ClassInfo}
use Rattle.ad_schema.specs.Attributes.{attrs_of}
use Rattle.ad_schema.specs.Classes.{classes_of}
use Rattle.ad_access_dir.specs.Masks.{IsMask}
use Rattle.ad_access_dir.specs.Labels.{label_of}
use Rattle.ad_access_dir.specs.Allowed.{is_child_class}
use Rattle.ad_acl.specs.declared.codes.Code.{Code}
use Rattle.ad_diff_rights.specs.Rights.{labels, object_codes, attribute_codes, child_codes, object_labels, child_labels}
use Rattle.ad_diff_rights.specs.Steps.{AreWanted, masked_attribute}
use Rattle.ad_diff_rights.proofs.Masks.{labels_are, object_wanted, child_wanted}

-- what was put, by another name
pub put_as : {A E X : Type 0} (r : Result A E) (before after piece other : List X) → piece ≡ other
    → OnOk r (after ≡ before ++ piece) → OnOk r (after ≡ before ++ other)
put_as {A} {E} {X} r before after piece other is put = subst (λ (t : List X). OnOk r (after ≡ before ++ t)) is put

module _ (grants : List Guid → ℕ → Bool) (mask : ℕ) (all : List Code) where
  pub object_is : (path : List Guid) → path ≡ [] → IsMask 0xf01ff (grants path) mask → all ≡ object_codes
      → labels (has_bit mask) (codes "object ") all ≡ object_labels grants
  unfolding object_labels
  object_is path same is are =
      ap (labels (has_bit mask) (codes "object ")) are
      ∙ labels_are 0xf01ff mask (grants []) (codes "object ") object_codes
      (subst (λ (p : List Guid). IsMask 0xf01ff (grants p) mask) same is) object_wanted

  pub kind_is : (want : ℕ) (path : List Guid) (guid : Guid) (kind name label : List ℕ) → path ≡ guid ∷ []
      → IsMask want (grants path) mask → AreWanted want all → label ≡ label_of kind name
      → labels (has_bit mask) label all ≡ labels (grants (guid ∷ [])) (label_of kind name) all
  kind_is want path guid kind name label same is wanted own =
      ap (λ (l : List ℕ). labels (has_bit mask) l all) own
      ∙ labels_are want mask (grants (guid ∷ [])) (label_of kind name) all
      (subst (λ (p : List Guid). IsMask want (grants p) mask) same is) wanted

  pub child_is : (schema : List SchemaRecord) (class : ClassId) (place : ℕ) (info : ClassInfo) (path : List Guid)
      (label : List ℕ)
      → slice_get (classes_of schema) place ≡ Some info → is_child_class schema class.0 place info ≡ true
      → path ≡ info.guid ∷ [] → IsMask 0x3 (grants path) mask → label ≡ label_of (codes "child ") info.name
      → all ≡ child_codes
      → labels (has_bit mask) label all ≡ child_labels schema grants class place
  unfolding child_labels
  child_is schema class place info path label there wanted same is own are =
      rw (there, wanted)
      (ap (λ (c : List Code). labels (has_bit mask) label c) are
      ∙ ap (λ (l : List ℕ). labels (has_bit mask) l child_codes) own
      ∙ labels_are 0x3 mask (grants (info.guid ∷ [])) (label_of (codes "child ") info.name) child_codes
      (subst (λ (p : List Guid). IsMask 0x3 (grants p) mask) same is) child_wanted)

pub child_none : (schema : List SchemaRecord) (grants : List Guid → ℕ → Bool) (class : ClassId) (place : ℕ)
    (info : ClassInfo)
    → slice_get (classes_of schema) place ≡ Some info → is_child_class schema class.0 place info ≡ false
    → [] ≡ child_labels schema grants class place
unfolding child_labels
child_none schema grants class place info there wanted = rw (there, wanted) refl

pub attribute_is : (schema : List SchemaRecord) (id : AttrId) (mask : ℕ) (info : AttrInfo) (label : List ℕ)
    (all : List Code) → slice_get (attrs_of schema) id.0 ≡ Some info → label ≡ label_of (codes "attribute ") info.name
    → all ≡ attribute_codes → labels (has_bit mask) label all ≡ masked_attribute schema id mask
unfolding masked_attribute
attribute_is schema id mask info label all there own are =
    rw there
    (ap (λ (c : List Code). labels (has_bit mask) label c) are
    ∙ ap (λ (l : List ℕ). labels (has_bit mask) l attribute_codes) own)
