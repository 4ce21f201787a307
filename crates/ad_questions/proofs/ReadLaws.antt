-- What is told of reading is what a search shows.
use Rattle.std.proofs.Common.{◌≡◌, ◌∙◌, ℕ, Bool, true, false, ◌&&◌, ◌||◌, not, [], ◌∷◌, Option, Some}
use Rattle.std.proofs.Common.{refl, ap}
use Rattle.std.specs.Prelude.{slice_get}
use Rattle.std.specs.Option.{option_map_or}
use Rattle.ad_ids.specs.declared.token.Token.{Token}
use Rattle.ad_acl.specs.Mask.{read_property, control_access, read_control, access_system_security}
use Rattle.ad_schema.specs.declared.info.AttrId.{AttrId}
use Rattle.ad_schema.specs.declared.info.AttrInfo.{AttrInfo}
use Rattle.ad_schema.specs.Attributes.{attrs_of}
use Rattle.ad_sd.specs.Shown.{asked}
use Rattle.ad_sd.specs.declared.parts.Sd.{Sd}
use Rattle.ad_sd.specs.declared.parts.SdParts.{SdParts}
use Rattle.ad_dir_model.specs.Objects.{sd_at}
use Rattle.ad_dir_model.specs.Directory.{Directory}
use Rattle.ad_access_dir.specs.Sight.{is_granted}
use Rattle.ad_needs_rules.specs.Needs.{needs, is_met}
use Rattle.ad_needs_rules.specs.Requests.{class_at, attr_path}
use Rattle.ad_entries.specs.Seen.{is_never_read, is_readable, parts_read}
use Rattle.ad_entries.specs.Entry.{are_read}
use Rattle.ad_questions.specs.declared.question.Question.TheVariants as question
use Rattle.ad_questions.specs.Requests.{passes, is_shown, is_confidential, if_confidential, read_needs, is_for, request_needs}
use Rattle.ad_questions.specs.Requirements.{are_met}

-- ---- an attribute

by_plain : (hidden plain control : Bool)
    → (not hidden && ((plain || false) && true)) ≡ ((not hidden && plain) && (not false || control))
by_plain true plain control = refl
by_plain false true control = refl
by_plain false false control = refl

by_secret : (hidden plain control : Bool)
    → (not hidden && ((plain || false) && ((control || false) && true)))
    ≡ ((not hidden && plain) && (not true || control))
by_secret true plain control = refl
by_secret false true true = refl
by_secret false true false = refl
by_secret false false control = refl

-- the attribute at a place, which is there
passes_is : (dir : Directory) (attr : ℕ) (info : AttrInfo) (test : AttrInfo → Bool)
    → slice_get (attrs_of dir.schema) attr ≡ Some info → passes dir.schema test attr ≡ test info
unfolding passes
passes_is dir attr info test there = ap (λ (found : Option AttrInfo). option_map_or test found false) there

module _ (dir : Directory) (token : Token) (number : ℕ) (id : AttrId) (info : AttrInfo)
    (there : slice_get (attrs_of dir.schema) id.0 ≡ Some info) where
  by : (hidden confidential : Bool)
      → (not hidden && are_met dir token
      ((needs number read_property (attr_path dir.schema (class_at dir number) id.0) ∷ [])
      ∷ if_confidential confidential
      (needs number control_access (attr_path dir.schema (class_at dir number) id.0) ∷ [])))
      ≡ ((not hidden && is_granted dir token number (attr_path dir.schema (class_at dir number) id.0) read_property)
      && (not confidential
      || is_granted dir token number (attr_path dir.schema (class_at dir number) id.0) control_access))
  unfolding is_met
  by hidden false =
      by_plain hidden (is_granted dir token number (attr_path dir.schema (class_at dir number) id.0) read_property)
      (is_granted dir token number (attr_path dir.schema (class_at dir number) id.0) control_access)
  by hidden true =
      by_secret hidden (is_granted dir token number (attr_path dir.schema (class_at dir number) id.0) read_property)
      (is_granted dir token number (attr_path dir.schema (class_at dir number) id.0) control_access)

  pub read_is : (is_for dir (question.Read id) number
      && are_met dir token (request_needs dir (question.Read id) number))
      ≡ is_readable dir token number id.0 info
  unfolding is_for request_needs read_needs is_readable
  read_is =
      ap (λ (b : Bool). b && are_met dir token
      ((needs number read_property (attr_path dir.schema (class_at dir number) id.0) ∷ [])
      ∷ if_confidential (passes dir.schema is_confidential id.0)
      (needs number control_access (attr_path dir.schema (class_at dir number) id.0) ∷ [])))
      (passes_is dir id.0 info is_shown there)
      ∙ ap (λ (b : Bool). not (is_never_read info.name) && are_met dir token
      ((needs number read_property (attr_path dir.schema (class_at dir number) id.0) ∷ [])
      ∷ if_confidential b (needs number control_access (attr_path dir.schema (class_at dir number) id.0) ∷ [])))
      (passes_is dir id.0 info is_confidential there)
      ∙ by (is_never_read info.name) info.confidential

-- ---- the descriptor

abbrev by_two : Bool → Bool → Sd → SdParts
by_two control system sd = record {
  owner = asked control sd.owner;
  group = asked control sd.group;
  dacl = asked control sd.dacl;
  sacl = asked system sd.sacl;
}

by_rights : (control system : Bool) (sd : Sd)
    → ((control || (system || false)) && true)
    ≡ (are_read (by_two control system sd) 7 || are_read (by_two control system sd) 8)
unfolding are_read
by_rights true system sd = refl
by_rights false true sd = refl
by_rights false false sd = refl

pub descriptor_is : (dir : Directory) (token : Token) (number : ℕ)
    → are_met dir token (request_needs dir question.ReadDescriptor number)
    ≡ (are_read (parts_read dir token number) 7 || are_read (parts_read dir token number) 8)
unfolding request_needs is_met parts_read
descriptor_is dir token number =
    by_rights (is_granted dir token number [] read_control) (is_granted dir token number [] access_system_security)
    (sd_at dir.objects number)
