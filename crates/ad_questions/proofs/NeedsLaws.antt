-- What a question asks for is what is checked where the request is made.
use Rattle.std.proofs.Common.{◌≡◌, ◌∙◌, ℕ, Bool, true, false, List, [], ◌∷◌, ◌++◌, Option, Some}
use Rattle.std.proofs.Common.{cond, refl, sym, ap}
use Rattle.std.specs.Prelude.{if◌then◌else◌, is_some}
use Rattle.std.proofs.lemmas.List.{append-nil}
use Rattle.ad_ids.specs.declared.guid.Guid.{Guid}
use Rattle.ad_ids.specs.declared.token.Token.{Token}
use Rattle.ad_acl.specs.Mask.{create_child, write_property, control_access, write_owner, write_dac}
use Rattle.ad_acl.specs.Mask.{access_system_security}
use Rattle.ad_sd.specs.declared.parts.SdParts.{SdParts}
use Rattle.ad_ldap.specs.declared.items.Item.{Item}
use Rattle.ad_schema.specs.declared.info.AttrId.{AttrId}
use Rattle.ad_schema.specs.declared.info.ClassId.{ClassId}
use Rattle.ad_schema_classes.proofs.IndexLemmas.{same_itself}
use Rattle.ad_dir_model.specs.Attributes.{attr_place}
use Rattle.ad_dir_model.specs.Directory.{Directory}
use Rattle.ad_access_dir.specs.Passwords.{is_password, force_change, change}
use Rattle.ad_needs_rules.specs.Needs.{needs}
use Rattle.ad_needs_rules.specs.Requests.{class_at, class_path, attr_path, is_descriptor}
use Rattle.ad_needs_rules.specs.Adding.{sacl_needs, brings_sacl, add_needs}
use Rattle.ad_needs_rules.specs.Deleting.{delete_needs}
use Rattle.ad_needs_rules.specs.Modifying.{items_of, written_sd, need_if, descriptor_needs}
use Rattle.ad_needs_rules.specs.Modifying.{password_needs, or_validated, attr_needs, ordinary_needs, item_needs}
use Rattle.ad_needs_rules.specs.Modifying.{needs_behind, modify_needs}
use Rattle.ad_questions.specs.declared.question.Question.TheVariants as question
use Rattle.ad_questions.specs.Requests.{passes, is_secret, to_reset, write_needs, join_needs, request_needs}
use Rattle.ad_questions.specs.Asking.{IsOrdinary, IsReset, IsJoining, IsOfParts}

-- ---- one item

module _ (dir : Directory) (token : Token) (number flags : ℕ) (item : Item) where
  alone : items_of (item ∷ []) item.attr ≡ item ∷ []
  alone = ap (λ (b : Bool). cond b (item ∷ []) []) (same_itself item.attr)

  of_item : modify_needs dir token number flags (item ∷ []) ≡ item_needs dir token number flags (item ∷ []) item
  unfolding needs_behind
  of_item = append-nil _

  -- an ordinary attribute
  ordinary : (attr : ℕ) → attr_place dir.schema item.attr ≡ Some attr → is_descriptor item.attr ≡ false
      → is_password item.attr ≡ false
      → modify_needs dir token number flags (item ∷ []) ≡ attr_needs dir token number attr (item ∷ [])
  ordinary attr named no_descriptor no_password =
      of_item
      ∙ ap (λ (b : Bool). if b then descriptor_needs number (written_sd (item ∷ []) flags)
      else (if is_password item.attr then password_needs number (items_of (item ∷ []) item.attr)
      else ordinary_needs dir token number (items_of (item ∷ []) item.attr) (attr_place dir.schema item.attr)))
      no_descriptor
      ∙ ap (λ (b : Bool). if b then password_needs number (items_of (item ∷ []) item.attr)
      else ordinary_needs dir token number (items_of (item ∷ []) item.attr) (attr_place dir.schema item.attr))
      no_password
      ∙ ap (λ (found : Option ℕ). ordinary_needs dir token number (items_of (item ∷ []) item.attr) found) named
      ∙ ap (λ (items : List Item). attr_needs dir token number attr items) alone

  pub write_is : (id : AttrId) → IsOrdinary dir token number id.0 item → passes dir.schema is_secret id.0 ≡ false
      → request_needs dir (question.Write id) number ≡ modify_needs dir token number flags (item ∷ [])
  unfolding request_needs
  write_is id is no_secret =
      ap (λ (b : Bool). write_needs dir number id.0 b ∷ []) no_secret
      ∙ sym (ordinary id.0 is.named is.no_descriptor is.no_password
      ∙ ap (λ (own : Option Guid). (needs number write_property (attr_path dir.schema (class_at dir number) id.0)
      ∷ or_validated number own) ∷ []) is.no_own)

  pub join_is : (attr : ℕ) → IsJoining dir token number attr item
      → request_needs dir question.Join number ≡ modify_needs dir token number flags (item ∷ [])
  unfolding request_needs
  join_is attr is =
      ap (λ (found : Option ℕ). join_needs dir number found ∷ []) is.member
      ∙ sym (ordinary attr is.named is.no_descriptor is.no_password
      ∙ ap (λ (own : Option Guid). (needs number write_property (attr_path dir.schema (class_at dir number) attr)
      ∷ or_validated number own) ∷ []) is.own)

  -- a password
  reset_of : IsReset item → to_reset number ∷ [] ≡ modify_needs dir token number flags (item ∷ [])
  reset_of is =
      sym (of_item
      ∙ ap (λ (b : Bool). if b then descriptor_needs number (written_sd (item ∷ []) flags)
      else (if is_password item.attr then password_needs number (items_of (item ∷ []) item.attr)
      else ordinary_needs dir token number (items_of (item ∷ []) item.attr) (attr_place dir.schema item.attr)))
      is.no_descriptor
      ∙ ap (λ (b : Bool). if b then password_needs number (items_of (item ∷ []) item.attr)
      else ordinary_needs dir token number (items_of (item ∷ []) item.attr) (attr_place dir.schema item.attr))
      is.password
      ∙ ap (λ (items : List Item). password_needs number items) alone
      ∙ ap (λ (b : Bool). (needs number control_access ((if b then force_change else change) ∷ []) ∷ []) ∷ [])
      is.forced)

  pub reset_is : IsReset item → request_needs dir question.Reset number
      ≡ modify_needs dir token number flags (item ∷ [])
  unfolding request_needs
  reset_is is = reset_of is

  pub write_resets : (id : AttrId) → IsReset item → passes dir.schema is_secret id.0 ≡ true
      → request_needs dir (question.Write id) number ≡ modify_needs dir token number flags (item ∷ [])
  unfolding request_needs
  write_resets id is secret = ap (λ (b : Bool). write_needs dir number id.0 b ∷ []) secret ∙ reset_of is

  -- parts of the descriptor
  of_parts : (owner dacl : Bool) (is : IsOfParts flags item owner dacl)
      → modify_needs dir token number flags (item ∷ []) ≡ need_if owner number write_owner
      ++ (need_if dacl number write_dac ++ [])
  of_parts owner dacl is =
      of_item
      ∙ ap (λ (b : Bool). if b then descriptor_needs number (written_sd (item ∷ []) flags)
      else (if is_password item.attr then password_needs number (items_of (item ∷ []) item.attr)
      else ordinary_needs dir token number (items_of (item ∷ []) item.attr) (attr_place dir.schema item.attr)))
      is.descriptor
      ∙ ap (λ (sd : Option SdParts). descriptor_needs number sd) is.written
      ∙ ap (λ (b : Bool). need_if b number write_owner
      ++ (need_if (is_some is.parts.dacl) number write_dac
      ++ need_if (is_some is.parts.sacl) number access_system_security)) is.has_owner
      ∙ ap (λ (b : Bool). need_if owner number write_owner
      ++ (need_if b number write_dac ++ need_if (is_some is.parts.sacl) number access_system_security)) is.has_dacl
      ∙ ap (λ (b : Bool). need_if owner number write_owner
      ++ (need_if dacl number write_dac ++ need_if b number access_system_security)) is.no_sacl

  pub dacl_is : IsOfParts flags item false true → request_needs dir question.Dacl number
      ≡ modify_needs dir token number flags (item ∷ [])
  unfolding request_needs
  dacl_is is = sym (of_parts false true is)

  pub owner_is : IsOfParts flags item true false → request_needs dir question.Owner number
      ≡ modify_needs dir token number flags (item ∷ [])
  unfolding request_needs
  owner_is is = sym (of_parts true false is)

-- ---- a name

pub delete_is : (dir : Directory) (number : ℕ) → request_needs dir question.Delete number
    ≡ delete_needs dir number false
unfolding request_needs
delete_is dir number = refl

pub add_is : (dir : Directory) (number : ℕ) (id : ClassId) (sd : Option SdParts) → brings_sacl sd ≡ false
    → request_needs dir (question.Add id) number ≡ add_needs dir number id.0 sd
unfolding request_needs
add_is dir number id sd no_sacl =
    sym (ap (λ (b : Bool). (needs number create_child (class_path dir.schema id.0) ∷ []) ∷ sacl_needs number b) no_sacl)
