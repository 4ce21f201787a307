-- What is told to be writable is what the checks of a replacement grant.
use Rattle.std.proofs.Common.{◌≡◌, ℕ, Bool, true, false, not, cond, ◌&&◌, ◌||◌, List, [], ◌∷◌, ◌++◌, Option, Some}
use Rattle.std.proofs.Common.{None, refl, sym, ap, ◌∙◌}
use Rattle.std.specs.Prelude.{codes, nat_eq, is_some}
use Rattle.std.specs.Option.{option_map, option_map_or}
use Rattle.std.proofs.lemmas.Bool.{and_parts, and_from, false≢true}
use Rattle.std.proofs.lemmas.Option.{none-some}
use Rattle.ad_ids.specs.declared.guid.Guid.{Guid}
use Rattle.ad_ids.specs.declared.token.Token.{Token}
use Rattle.ad_acl.specs.Mask.{write_property, control_access}
use Rattle.ad_ldap.specs.declared.controls.Settings.{Settings}
use Rattle.ad_ldap.specs.declared.items.Item.{Item}
use Rattle.ad_ldap.specs.MessageValue.{ModifyOf}
use Rattle.ad_schema_classes.specs.Names.{same_name}
use Rattle.ad_schema.specs.declared.info.AttrId.{AttrId}
use Rattle.ad_schema.specs.declared.info.AttrInfo.{AttrInfo}
use Rattle.ad_schema.specs.declared.meaning.RuleAttr.TheVariants as rule
use Rattle.ad_schema.specs.Classes.{naming_of, is_allowed}
use Rattle.ad_schema.specs.Meaning.{is_computed, attr_is_back_link, attr_of_rule}
use Rattle.ad_types.specs.TypesOf.{path_of}
use Rattle.ad_constructed.specs.Listed.{is_object_sid, is_replaceable}
use Rattle.ad_constructed_dir.specs.Changing.{is_writer, may_write}
use Rattle.ad_dir_objects.specs.declared.act.Act.{Act}
use Rattle.ad_dir_model.specs.Objects.{object_at}
use Rattle.ad_dir_model.specs.Attributes.{attr_place, object_sid, rule_place}
use Rattle.ad_dir_model.specs.Directory.{Directory}
use Rattle.ad_access_dir.specs.Sight.{is_granted}
use Rattle.ad_needs_rules.specs.declared.outcome.Verdict.TheVariants.{Granted}
use Rattle.ad_needs_rules.specs.Checks.{Check, Refusal, first_failing, by_checks, or_code}
use Rattle.ad_needs_rules.specs.Checks.{all_met}
use Rattle.ad_needs_rules.specs.Needs.{Alternative, needs, is_met}
use Rattle.ad_needs_rules.specs.Requests.{has_place, class_at, attr_path}
use Rattle.ad_access_dir.specs.Passwords.{is_password}
use Rattle.ad_needs_rules.specs.Validated.{validated_write}
use Rattle.ad_needs_rules.specs.Modifying.{items_of, is_forced, is_changed, is_unwritable}
use Rattle.ad_access_dir.specs.Passwords.{force_change, change}
use Rattle.ad_needs_rules.specs.Modifying.{descriptor_checks, ordinary_checks, item_checks, written_sd}
use Rattle.ad_needs_rules.specs.Modifying.{descriptor_needs}
use Rattle.ad_needs_rules.specs.Modifying.{password_needs, or_validated, ordinary_needs, needs_behind, modify_needs}
use Rattle.ad_needs_rules.specs.Modifying.{modify_checks, modify_act}
use Rattle.ad_needs_rules.specs.Verdicts.{verdict_of}
use Rattle.ad_search_laws.specs.Told.{replacement, IsSeenAs, IsOrdinary, IsTold, IsGrantedAny}
use Rattle.ad_search_laws.proofs.OneItem.{only, one_item, all_hold, all_held, none_failed}

-- ---- the one item

forced : (name value : List ℕ) → is_forced (items_of (only name value ∷ []) name) ≡ true
unfolding is_forced
forced name value = ap is_forced (one_item name value)

-- ---- what the rule of the list asks, and what the checks of an item ask

-- the checks by truth values
checks_by : Bool → Bool → Bool → Bool → Bool → List Check
checks_by known class_ naming unwritable formed =
    or_code known 17 ∷ or_code (not class_) 69 ∷ or_code (not naming) 67 ∷ or_code (not unwritable) 53
    ∷ or_code formed 53 ∷ []

hold_from : (class_ naming unwritable : Bool) → (not class_ && (not naming && not unwritable)) ≡ true
    → first_failing (checks_by true class_ naming unwritable true) ≡ None
unfolding checks_by first_failing
hold_from true naming unwritable is = absurd (false≢true is)
hold_from false true unwritable is = absurd (false≢true is)
hold_from false false true is = absurd (false≢true is)
hold_from false false false is = refl

hold_to : (class_ naming unwritable : Bool) → first_failing (checks_by true class_ naming unwritable true) ≡ None
    → (not class_ && (not naming && not unwritable)) ≡ true
unfolding checks_by first_failing
hold_to true naming unwritable is = absurd (none-some _ (sym is))
hold_to false true unwritable is = absurd (none-some _ (sym is))
hold_to false false true is = absurd (none-some _ (sym is))
hold_to false false false is = refl

-- the two rules are one, of a name that isn't the descriptor's
one_rule : (class_ dn name naming sid back : Bool)
    → (((not (((class_ || dn) || name) || false) && not naming) && not sid) && not back)
    ≡ (not class_ && (not naming && not (dn || (name || (sid || back)))))
one_rule true dn name naming sid back = refl
one_rule false true name true sid back = refl
one_rule false true name false sid back = refl
one_rule false false true true sid back = refl
one_rule false false true false sid back = refl
one_rule false false false true sid back = refl
one_rule false false false false true back = refl
one_rule false false false false false true = refl
one_rule false false false false false false = refl

or_forced : (password changed : Bool) → (not password || (true || changed)) ≡ true
or_forced true changed = refl
or_forced false changed = refl

-- the place of a rule's attribute, in two spellings
same_place : (found : Option AttrId) (place : ℕ) → option_map_or (λ (n : ℕ). nat_eq n place)
    (option_map (λ (id : AttrId). id.0) found) false
    ≡ option_map_or (λ (id : AttrId). nat_eq id.0 place) found false
same_place None place = refl
same_place (Some id) place = refl

-- ---- an object and an attribute

module _ (dir : Directory) (token : Token) (number place : ℕ) (dn : List ℕ) (info : AttrInfo)
    (seen : IsSeenAs dir token number dn) (attr : IsOrdinary dir place info)
    (value : List ℕ) where
  items : List Item
  items = only info.name value ∷ []

  class_here : ℕ
  class_here = (object_at dir.objects number).class

  at_place : (test : ℕ → Bool) → has_place dir.schema test info.name ≡ test place
  at_place test = ap (λ (found : Option ℕ). option_map_or test found false) attr.named

  sid_place : has_place dir.schema (λ (a : ℕ). option_map_or (λ (sid : ℕ). nat_eq sid a) (object_sid dir.schema)
      false) info.name ≡ is_object_sid dir.schema place
  unfolding rule_place
  sid_place = at_place (λ (a : ℕ). option_map_or (λ (sid : ℕ). nat_eq sid a) (object_sid dir.schema) false)
      ∙ same_place (attr_of_rule dir.schema rule.ObjectSid) place

  unwritable : Bool
  unwritable = same_name info.name (codes "distinguishedName") || (same_name info.name (codes "name")
      || (is_object_sid dir.schema place || attr_is_back_link dir.schema place))

  -- what the list asks is what the checks ask
  replaceable : is_replaceable dir.schema class_here place info
      ≡ (not (same_name info.name (codes "objectClass"))
      && (not (nat_eq (naming_of dir.schema class_here) place) && not unwritable))
  unfolding is_replaceable is_computed unwritable
  replaceable =
      ap (λ (b : Bool). ((not (((same_name info.name (codes "objectClass")
      || same_name info.name (codes "distinguishedName")) || same_name info.name (codes "name")) || b)
      && not (nat_eq (naming_of dir.schema class_here) place)) && not (is_object_sid dir.schema place))
      && not (attr_is_back_link dir.schema place)) attr.ordinary
      ∙ one_rule (same_name info.name (codes "objectClass")) (same_name info.name (codes "distinguishedName"))
      (same_name info.name (codes "name"))
      (nat_eq (naming_of dir.schema class_here) place) (is_object_sid dir.schema place)
      (attr_is_back_link dir.schema place)

  own_checks : List Check
  own_checks = checks_by true (same_name info.name (codes "objectClass"))
      (nat_eq (naming_of dir.schema class_here) place) unwritable true

  -- the checks of the one item, by truth values
  checks_are : (flags : ℕ) → item_checks dir number flags items (only info.name value) ≡ own_checks
  unfolding own_checks checks_by items unwritable class_here
  checks_are flags =
      ap (λ (b : Bool). cond b (descriptor_checks flags items (only info.name value))
      (ordinary_checks dir number items (only info.name value))) attr.ordinary
      ∙ ap (λ (b : Bool). checks_by b (same_name info.name (codes "objectClass"))
      (has_place dir.schema (λ (a : ℕ). nat_eq (naming_of dir.schema class_here) a) info.name)
      (is_unwritable dir.schema info.name)
      (not (is_password info.name) || (is_forced (items_of items info.name)
      || is_changed (items_of items info.name)))) (ap is_some attr.named)
      ∙ ap (λ (b : Bool). checks_by true (same_name info.name (codes "objectClass")) b
      (is_unwritable dir.schema info.name)
      (not (is_password info.name) || (is_forced (items_of items info.name)
      || is_changed (items_of items info.name))))
      (at_place (λ (a : ℕ). nat_eq (naming_of dir.schema class_here) a))
      ∙ ap (λ (b : Bool). checks_by true (same_name info.name (codes "objectClass"))
      (nat_eq (naming_of dir.schema class_here) place)
      (same_name info.name (codes "distinguishedName")
      || (same_name info.name (codes "name")
      || (b || has_place dir.schema (attr_is_back_link dir.schema) info.name)))
      (not (is_password info.name) || (is_forced (items_of items info.name)
      || is_changed (items_of items info.name)))) sid_place
      ∙ ap (λ (b : Bool). checks_by true (same_name info.name (codes "objectClass"))
      (nat_eq (naming_of dir.schema class_here) place)
      (same_name info.name (codes "distinguishedName")
      || (same_name info.name (codes "name") || (is_object_sid dir.schema place || b)))
      (not (is_password info.name) || (is_forced (items_of items info.name)
      || is_changed (items_of items info.name)))) (at_place (attr_is_back_link dir.schema))
      ∙ ap (λ (b : Bool). checks_by true (same_name info.name (codes "objectClass"))
      (nat_eq (naming_of dir.schema class_here) place) unwritable
      (not (is_password info.name) || (b || is_changed (items_of items info.name)))) (forced info.name value)
      ∙ ap (checks_by true (same_name info.name (codes "objectClass"))
      (nat_eq (naming_of dir.schema class_here) place) unwritable)
      (or_forced (is_password info.name) (is_changed (items_of items info.name)))

  -- ---- the requirements

  met : (bit : ℕ) (path : List Guid) (more : List Alternative) → is_granted dir token number path bit ≡ true
      → first_failing (all_met dir token (((needs number bit path ∷ more) ∷ []) ++ [])) ≡ None
  unfolding first_failing is_met
  met bit path more granted = rw granted refl

  writer : may_write dir token number place ≡ true → is_writer dir token number place info ≡ true
  unfolding may_write
  writer may = ap (λ (found : Option AttrInfo). option_map_or (is_writer dir token number place) found false)
      (sym attr.info_is) ∙ may

  all_required : (flags : ℕ) → may_write dir token number place ≡ true
      → first_failing (all_met dir token (modify_needs dir token number flags items)) ≡ None
  unfolding needs_behind items class_here object_at
  all_required flags may =
      ap (λ (b : Bool). first_failing (all_met dir token
      (cond b (descriptor_needs number (written_sd items flags)) (by_name (is_password info.name)) ++ [])))
      attr.ordinary
      ∙ by_password (is_password info.name) refl
    where
      by_name : Bool → List (List Alternative)
      by_name b = cond b (password_needs number (items_of items info.name))
          (ordinary_needs dir token number (items_of items info.name) (attr_place dir.schema info.name))

      by_password : (b : Bool) → is_password info.name ≡ b → first_failing (all_met dir token (by_name b ++ [])) ≡ None
      by_password true is =
          ap (λ (b : Bool). first_failing
          (all_met dir token (((needs number control_access (cond b force_change change ∷ []) ∷ []) ∷ []) ++ [])))
          (forced info.name value)
          ∙ met control_access (force_change ∷ []) []
          (ap (λ (b : Bool). cond b (is_granted dir token number (force_change ∷ []) control_access)
          (is_granted dir token number (path_of dir.schema (record { 0 = class_here }) (record { 0 = place }))
          write_property)) (sym is) ∙ writer may)
      by_password false is =
          ap (λ (found : Option ℕ). first_failing
          (all_met dir token (ordinary_needs dir token number (items_of items info.name) found ++ []))) attr.named
          ∙ met write_property (attr_path dir.schema (class_at dir number) place)
          (or_validated number (validated_write dir token number place (items_of items info.name)))
          (ap (λ (b : Bool). cond b (is_granted dir token number (force_change ∷ []) control_access)
          (is_granted dir token number (path_of dir.schema (record { 0 = class_here }) (record { 0 = place }))
          write_property)) (sym is) ∙ writer may)

  -- ---- all checks

  all_granted : (flags : ℕ) → is_replaceable dir.schema class_here place info ≡ true → may_write dir token number
      place ≡ true → first_failing (modify_checks dir token (replacement dn info.name value) flags) ≡ None
  unfolding items own_checks
  all_granted flags may_replace may =
      all_hold dir token number dn info.name value flags seen
      (ap first_failing (checks_are flags) ∙ hold_from (same_name info.name (codes "objectClass"))
      (nat_eq (naming_of dir.schema class_here) place) unwritable (sym replaceable ∙ may_replace))
      (all_required flags may)

  was_replaceable : (flags : ℕ) → first_failing (modify_checks dir token (replacement dn info.name value) flags) ≡ None
      → is_replaceable dir.schema class_here place info ≡ true
  unfolding items own_checks
  was_replaceable flags none =
      replaceable ∙ hold_to (same_name info.name (codes "objectClass"))
      (nat_eq (naming_of dir.schema class_here) place) unwritable
      (sym (ap first_failing (checks_are flags))
      ∙ (all_held dir token number dn info.name value flags seen none).0)

-- ---- verdicts

pub told_granted : (dir : Directory) (token : Token) (number place : ℕ) (dn : List ℕ) (info : AttrInfo)
    → IsSeenAs dir token number dn → IsOrdinary dir place info
    → IsTold dir token number place info → IsGrantedAny dir token dn info.name
unfolding verdict_of class_here
told_granted dir token number place dn info seen attr told = λ value settings.
    let class : ℕ = (object_at dir.objects number).class in
    let parts = and_parts (is_allowed dir.schema class place && is_replaceable dir.schema class place info)
    (may_write dir token number place) told in
    let may_replace = (and_parts (is_allowed dir.schema class place) (is_replaceable dir.schema class place info)
    parts.0).1 in
    ap (λ (found : Option Refusal). by_checks found
    (modify_act dir token (replacement dn info.name value) settings.sd_flags))
    (all_granted dir token number place dn info seen attr value settings.sd_flags may_replace parts.1)

pub granted_told : (dir : Directory) (token : Token) (number place : ℕ) (dn value : List ℕ) (info : AttrInfo)
    (settings : Settings) (act : Act)
    → IsSeenAs dir token number dn → IsOrdinary dir place info
    → verdict_of dir token (ModifyOf (replacement dn info.name value)) settings ≡ Granted act
    → is_allowed dir.schema (object_at dir.objects number).class place ≡ true → may_write dir token number place
    ≡ true → IsTold dir token number place info
unfolding verdict_of class_here
granted_told dir token number place dn value info settings act seen attr granted allowed may =
    let class : ℕ = (object_at dir.objects number).class in
    let none = none_failed (first_failing
    (modify_checks dir token (replacement dn info.name value) settings.sd_flags))
    (modify_act dir token (replacement dn info.name value) settings.sd_flags) act granted in
    and_from (is_allowed dir.schema class place && is_replaceable dir.schema class place info)
    (may_write dir token number place)
    (and_from (is_allowed dir.schema class place) (is_replaceable dir.schema class place info) allowed
    (was_replaceable dir token number place dn info seen attr value settings.sd_flags none)) may
