-- Lines of what is granted.
use Rattle.std.proofs.Common.{◌≡◌, ℕ, zero, suc, ◌+◌, ◌-◌, ◌<◌, ◌≤◌, Bool, true, false, List, [], ◌∷◌, ◌++◌, Option}
use Rattle.std.proofs.Common.{Some, Result, Ok, Err, OnOk, IfOk, codes, length, refl, sym, ap, subst, ◌∙◌}
use Rattle.std.proofs.Common.{if◌then◌else◌, arith, get_or, take, add-one, append_assoc}
use Rattle.std.specs.Prelude.{◌&&◌, All, slice_get, Vec}
use Rattle.std.specs.declared.alloc.Global.{Global}
use Rattle.std.specs.List.{flat_map}
use Rattle.std.specs.Option.{option_map_or}
use Rattle.std.proofs.lemmas.List.{take_more, flat_map_more}
use Rattle.std.proofs.lemmas.Option.{slice_get_within}
use Rattle.std.proofs.lemmas.List.Elements.{All-append, All-filter, All-weaker, All-nil, All-cons}
use Rattle.ad_ids.specs.declared.guid.Guid.{Guid}
use Rattle.ad_ids.specs.declared.token.Token.{Token}
use Rattle.ad_ids.specs.SidValue.{SidValue}
use Rattle.ad_sd.specs.declared.parts.Sd.{Sd}
use Rattle.ad_acl.specs.Mask.{mapped_has}
use Rattle.ad_types.specs.declared.type_tree.Node.{Node}
use Rattle.ad_acl.specs.Codes.{right_codes}
use Rattle.ad_sddl.specs.Canonical.{codes_text}
use Rattle.ad_schema.specs.declared.line.SchemaRecord.{SchemaRecord}
use Rattle.ad_schema.specs.declared.info.AttrId.{AttrId}
use Rattle.ad_schema.specs.declared.info.AttrInfo.{AttrInfo}
use Rattle.ad_schema.specs.declared.info.ClassId.{ClassId}
use Rattle.ad_schema.specs.declared.info.ClassInfo.{ClassInfo}
use Rattle.ad_schema.specs.declared.info.RightInfo.{RightInfo}
use Rattle.ad_schema.specs.Attributes.{attrs_of}
use Rattle.ad_schema.specs.Classes.{classes_of, is_allowed}
use Rattle.ad_types.specs.Tree.{is_leaf, path_at}
use Rattle.ad_types.specs.TypesOf.{path_of, tree_of, sets_of, HasLeaves}
use Rattle.ad_access.specs.Grant.{granted}
use Rattle.ad_access.specs.Tree.{node_granted}
use Rattle.ad_access.specs.Rights.{right_at}
use Rattle.ad_dir_model.specs.Directory.{Directory}
use Rattle.ad_dir_model.specs.Objects.{sd_at}
use Rattle.ad_dir_model.specs.Identity.{self_sid}
use Rattle.ad_access_dir.specs.Sight.{is_granted}
use Rattle.ad_bytes.specs.Puts.{Puts}
use Rattle.ad_access_dir.specs.Allowed.{allowed_attrs, is_child_class}
use Rattle.ad_access_dir.specs.Masks.{IsMask}
use Rattle.ad_access_dir.proofs.AllowedLaws.{allowed_within}
use Rattle.ad_dsacls.specs.Effective.{line_of, attribute_line, is_of_set, set_attrs, set_path, set_grants}
use Rattle.ad_access_dir.specs.Labels.{label_of, right_title}
use Rattle.ad_dsacls.specs.Effective.{set_line, extended_line, validated_line, object_line}
use Rattle.ad_dsacls.specs.Effective.{child_line, child_lines}
use Rattle.ad_dsacls.specs.Masks.{masked_line}
use Rattle.ad_dsacls.proofs.CodeLaws.{object_codes, attribute_codes, set_codes, extended_codes, validated_codes}
use Rattle.ad_dsacls.proofs.CodeLaws.{child_codes}

-- what was put, by another name
pub put_as : {A E : Type 0} (r : Result A E) (before after piece other : List ℕ) → piece ≡ other
    → OnOk r (Puts before after piece) → OnOk r (Puts before after other)
put_as r before after piece other is put = subst (λ (t : List ℕ). OnOk r (Puts before after t)) is put

-- ---- attributes of a property set

set_within : (schema : List SchemaRecord) (class : ℕ) (set : Guid)
    → All (λ (id : AttrId). id.0 < length (attrs_of schema)) (set_attrs schema class set)
set_within schema class set = All-filter (is_of_set schema set) (λ (id : AttrId). id.0 < length (attrs_of schema))
    (allowed_attrs schema class) (allowed_within schema class)

pub set_all : (schema : List SchemaRecord) (class : ℕ) (set : Guid) (ids : List AttrId) → ids
    ≡ set_attrs schema class set → All (λ (id : AttrId). id.0 < length (attrs_of schema)) ids
set_all schema class set ids is = subst (All (λ (id : AttrId). id.0 < length (attrs_of schema))) (sym is)
    (set_within schema class set)

-- ---- attributes in their tree

-- the line of a mask of what is granted on the attribute's path
pub masked_is : (dir : Directory) (token : Token) (number : ℕ) (class : ClassId) (id : AttrId) (mask : ℕ)
    → IsMask 0x130 (is_granted dir token number (path_of dir.schema class id)) mask → masked_line dir.schema id mask
    ≡ attribute_line dir token number class id
unfolding masked_line attribute_line
masked_is dir token number class id mask is = by_info (slice_get (attrs_of dir.schema) id.0)
    (attribute_codes (is_granted dir token number (path_of dir.schema class id)) mask is)
  where
    line_by : List ℕ → AttrInfo → List ℕ
    line_by text info = line_of (label_of (codes "attribute ") info.name) text

    by_info : (found : Option AttrInfo) {a b : List ℕ} → a ≡ b → option_map_or (line_by a) found []
        ≡ option_map_or (line_by b) found []
    by_info found {a} {b} e = ap (λ (t : List ℕ). option_map_or (line_by t) found []) e

-- ---- property sets

pub set_at_node : (dir : Directory) (token : Token) (number : ℕ) (class : ClassId) (set : Guid) (ids : List AttrId)
    (mask : ℕ) → (length ids ≡ 0 → ⊥)
    → IsMask 48 (node_granted (sd_at dir.objects number) token (self_sid dir number) (tree_of dir.schema class ids) 1)
    mask
    → IsMask 48 (set_grants dir token number class set ids) mask
unfolding set_grants
set_at_node dir token number class set [] mask some is = absurd (some refl)
set_at_node dir token number class set (id ∷ ids) mask some is = record { bits = is.bits }

pub set_without : (dir : Directory) (token : Token) (number : ℕ) (class : ClassId) (set : Guid) (ids : List AttrId)
    (path : List Guid) (mask : ℕ) → length ids ≡ 0
    → path ≡ set_path dir.schema class set → IsMask 48 (is_granted dir token number path) mask
    → IsMask 48 (set_grants dir token number class set ids) mask
unfolding set_grants
set_without dir token number class set [] path mask none same is =
    record {
      bits = λ bit lt. is.bits bit lt
          ∙ ap (λ (p : List Guid). mapped_has 48 bit && is_granted dir token number p bit) same;
    }
set_without dir token number class set (id ∷ ids) path mask none same is = absurd (omega arith)

-- ---- lists that grow

pub children_more : (dir : Directory) (token : Token) (number : ℕ) (class : ClassId) (n : ℕ)
    (before mid after : List ℕ) → mid ≡ before ++ child_lines dir token number class n
    → Puts mid after (child_line dir token number class n) → after ≡ before ++ child_lines dir token number class
    (n + 1)
unfolding child_lines
children_more dir token number class n before mid after is put =
    put.is
    ∙ ap (λ (t : List ℕ). t ++ child_line dir token number class n) is
    ∙ append_assoc before (child_lines dir token number class n) (child_line dir token number class n)
    ∙ ap (λ (m : ℕ). before ++ child_lines dir token number class m) (sym (add-one n))

pub lines_more : (f : AttrId → List ℕ) (ids : List AttrId) (i : ℕ) (d : AttrId) (before mid after piece : List ℕ) → i
    < length ids → mid ≡ before ++ flat_map f (take i ids)
    → piece ≡ f (get_or ids i d) → Puts mid after piece → after ≡ before ++ flat_map f (take (i + 1) ids)
lines_more f ids i d before mid after piece lt is same put =
    put.is
    ∙ ap (λ (t : List ℕ). t ++ piece) is
    ∙ ap (λ (t : List ℕ). (before ++ flat_map f (take i ids)) ++ t) same
    ∙ flat_map_more f before (take i ids) (get_or ids i d)
    ∙ ap (λ (t : List AttrId). before ++ flat_map f t) (sym (take_more ids i d lt))

-- ---- lines by masks

module _ (dir : Directory) (token : Token) (number mask : ℕ) where
  granted_on : (want : ℕ) (path other : List Guid) → path ≡ other → IsMask want (is_granted dir token number path)
      mask → IsMask want (is_granted dir token number other) mask
  granted_on want path other same is = subst (λ (p : List Guid). IsMask want (is_granted dir token number p) mask)
      same is

  pub object_is : (path : List Guid) → path ≡ [] → IsMask 0xf01ff (is_granted dir token number path) mask
      → line_of (codes "object ") (codes_text right_codes mask) ≡ object_line dir token number
  unfolding object_line
  object_is path same is = ap (line_of (codes "object "))
      (object_codes (is_granted dir token number []) mask (granted_on 0xf01ff path [] same is))

  pub set_is : (class : ClassId) (r : RightInfo) (ids : List AttrId) → ids ≡ set_attrs dir.schema class.0 r.guid
      → IsMask 48 (set_grants dir token number class r.guid ids) mask
      → line_of (label_of (codes "set ") (right_title r)) (codes_text right_codes mask) ≡ set_line dir token number class r
  set_is class r ids same is = ap (line_of (label_of (codes "set ") (right_title r)))
      (set_codes (set_grants dir token number class r.guid (set_attrs dir.schema class.0 r.guid)) mask
      (subst (λ (found : List AttrId). IsMask 48 (set_grants dir token number class r.guid found) mask) same is))

  pub extended_is : (r : RightInfo) (path : List Guid) → path ≡ r.guid ∷ []
      → IsMask 0x100 (is_granted dir token number path) mask
      → line_of (label_of (codes "right ") (right_title r)) (codes_text right_codes mask) ≡ extended_line dir token number r
  extended_is r path same is = ap (line_of (label_of (codes "right ") (right_title r)))
      (extended_codes (is_granted dir token number (r.guid ∷ [])) mask (granted_on 0x100 path (r.guid ∷ []) same is))

  pub validated_is : (r : RightInfo) (path : List Guid) → path ≡ r.guid ∷ []
      → IsMask 0x8 (is_granted dir token number path) mask
      → line_of (label_of (codes "validated ") (right_title r)) (codes_text right_codes mask) ≡ validated_line dir token number r
  validated_is r path same is = ap (line_of (label_of (codes "validated ") (right_title r)))
      (validated_codes (is_granted dir token number (r.guid ∷ [])) mask (granted_on 0x8 path (r.guid ∷ []) same is))

  pub child_is : (class : ClassId) (place : ℕ) (info : ClassInfo) (path : List Guid)
      → slice_get (classes_of dir.schema) place ≡ Some info
      → is_child_class dir.schema class.0 place info ≡ true → path ≡ info.guid ∷ []
      → IsMask 0x3 (is_granted dir token number path) mask
      → line_of (label_of (codes "child ") info.name) (codes_text right_codes mask) ≡ child_line dir token number
      class place
  unfolding child_line
  child_is class place info path there wanted same is =
      rw (there, wanted) (ap (line_of (label_of (codes "child ") info.name))
      (child_codes (is_granted dir token number (info.guid ∷ [])) mask
      (granted_on 0x3 path (info.guid ∷ []) same is)))

pub child_none : (dir : Directory) (token : Token) (number : ℕ) (class : ClassId) (place : ℕ) (info : ClassInfo)
    → slice_get (classes_of dir.schema) place ≡ Some info
    → is_child_class dir.schema class.0 place info ≡ false → [] ≡ child_line dir token number class place
unfolding child_line
child_none dir token number class place info there wanted = rw (there, wanted) refl
