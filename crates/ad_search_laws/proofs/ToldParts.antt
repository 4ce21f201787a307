-- The parts of a descriptor that are told are what the checks of their replacement grant.
use Rattle.std.proofs.Common.{◌≡◌, ℕ, ◌+◌, Bool, true, false, List, [], ◌∷◌, ◌++◌, Option, Some, None, cond, length}
use Rattle.std.proofs.Common.{refl, sym, ap, ◌∙◌, inl, inr}
use Rattle.std.specs.Prelude.{is_some, option_map, nat_eq}
use Rattle.std.specs.Option.{option_map_or, option_and_then}
use Rattle.std.proofs.lemmas.Bool.{or_left, or_right, or_cases}
use Rattle.std.proofs.lemmas.Option.{none-some, same_Some}
use Rattle.std.proofs.lemmas.List.{append-nil}
use Rattle.ad_ids.specs.declared.token.Token.{Token}
use Rattle.ad_acl.specs.Mask.{has_bit, write_owner, write_dac, access_system_security}
use Rattle.ad_sd.specs.declared.parts.SdParts.{SdParts}
use Rattle.ad_ldap.specs.declared.controls.Settings.{Settings}
use Rattle.ad_ldap.specs.declared.items.Item.{Item}
use Rattle.ad_ldap.specs.MessageValue.{ModifyOf}
use Rattle.ad_constructed.specs.Rights.{if_may, parts_of}
use Rattle.ad_constructed_dir.specs.Changing.{changing_of}
use Rattle.ad_dir_objects.specs.declared.act.Act.{Act}
use Rattle.ad_dir_model.specs.Attributes.{attr_place}
use Rattle.ad_dir_model.specs.Directory.{Directory}
use Rattle.ad_access_dir.specs.Sight.{is_granted}
use Rattle.ad_needs_rules.specs.declared.outcome.Verdict.TheVariants.{Granted}
use Rattle.ad_needs_rules.specs.Checks.{Check, Refusal, first_failing, by_checks, or_code, or_missing, all_met}
use Rattle.ad_needs_rules.specs.Needs.{Alternative, needs}
use Rattle.ad_needs_rules.specs.Requests.{is_descriptor}
use Rattle.ad_access_dir.specs.Passwords.{is_password}
use Rattle.ad_needs_rules.specs.Descriptors.{sd_in_one, asked_parts, has_owner_or_group, has_part, has_asked_part}
use Rattle.ad_needs_rules.proofs.FirstFailing.{head_holds, head_passes}
use Rattle.ad_needs_rules.specs.Modifying.{items_of, descriptor_checks, ordinary_checks, item_checks, written_sd}
use Rattle.ad_needs_rules.specs.Modifying.{need_if}
use Rattle.ad_needs_rules.specs.Modifying.{parts_needs, descriptor_needs, password_needs, ordinary_needs, needs_behind}
use Rattle.ad_needs_rules.specs.Modifying.{modify_needs, modify_checks, modify_act}
use Rattle.ad_needs_rules.specs.Verdicts.{verdict_of}
use Rattle.ad_search_laws.specs.Told.{replacement, IsSeenAs}
use Rattle.ad_search_laws.specs.Parts.{IsNumberOfParts, ArePartsTold, AreAsked}
use Rattle.ad_search_laws.proofs.OneRight.{one_right}
use Rattle.ad_search_laws.proofs.OneItem.{only, one_item, all_hold, all_held, none_failed}

-- ---- the bits of the number

record AreBits (owner dacl sacl : Bool) : Type 0 where
  at_owner : has_bit ((if_may owner 3 + if_may dacl 4) + if_may sacl 8) 0 ≡ owner
  at_group : has_bit ((if_may owner 3 + if_may dacl 4) + if_may sacl 8) 1 ≡ owner
  at_dacl : has_bit ((if_may owner 3 + if_may dacl 4) + if_may sacl 8) 2 ≡ dacl
  at_sacl : has_bit ((if_may owner 3 + if_may dacl 4) + if_may sacl 8) 3 ≡ sacl

bits : (owner dacl sacl : Bool) → AreBits owner dacl sacl
unfolding has_bit
bits true true true = record { at_owner = refl; at_group = refl; at_dacl = refl; at_sacl = refl }
bits true true false = record { at_owner = refl; at_group = refl; at_dacl = refl; at_sacl = refl }
bits true false true = record { at_owner = refl; at_group = refl; at_dacl = refl; at_sacl = refl }
bits true false false = record { at_owner = refl; at_group = refl; at_dacl = refl; at_sacl = refl }
bits false true true = record { at_owner = refl; at_group = refl; at_dacl = refl; at_sacl = refl }
bits false true false = record { at_owner = refl; at_group = refl; at_dacl = refl; at_sacl = refl }
bits false false true = record { at_owner = refl; at_group = refl; at_dacl = refl; at_sacl = refl }
bits false false false = record { at_owner = refl; at_group = refl; at_dacl = refl; at_sacl = refl }

-- ---- needs one after the other

module _ (dir : Directory) (token : Token) (number : ℕ) where
  need : ℕ → Check
  need bit = or_missing dir token (needs number bit [] ∷ [])

  need_is : (bit : ℕ) → (need bit).holds ≡ is_granted dir token number [] bit
  unfolding need
  need_is bit = one_right dir token number bit []

  need_met : (b : Bool) (bit : ℕ) (rest : List (List Alternative))
      → (b ≡ true → is_granted dir token number [] bit ≡ true)
      → first_failing (all_met dir token rest) ≡ None
      → first_failing (all_met dir token (need_if b number bit ++ rest)) ≡ None
  unfolding need
  need_met true bit rest may none = head_passes (need bit) (all_met dir token rest) (need_is bit ∙ may refl) ∙ none
  need_met false bit rest may none = none

  need_was_met : (b : Bool) (bit : ℕ) (rest : List (List Alternative))
      → first_failing (all_met dir token (need_if b number bit ++ rest)) ≡ None
      → (b ≡ true → is_granted dir token number [] bit ≡ true) × (first_failing (all_met dir token rest) ≡ None)
  unfolding need
  need_was_met true bit rest none =
      let parts = head_holds (need bit) (all_met dir token rest) none in
      ((λ _. sym (need_is bit) ∙ parts.0), parts.1)
  need_was_met false bit rest none = ((λ no. absurd cc), none)

  alone : (b : Bool) (bit : ℕ) → need_if b number bit ++ [] ≡ need_if b number bit
  alone true bit = refl
  alone false bit = refl

  -- ---- the number that is told

  the_bits : AreBits (is_granted dir token number [] write_owner) (is_granted dir token number [] write_dac)
      (is_granted dir token number [] access_system_security)
  the_bits = bits (is_granted dir token number [] write_owner) (is_granted dir token number [] write_dac)
      (is_granted dir token number [] access_system_security)

  pub number_of_parts : IsNumberOfParts dir token number
  unfolding parts_of changing_of
  number_of_parts = record {
    value = refl;
    owner = the_bits.at_owner;
    group = the_bits.at_group;
    dacl = the_bits.at_dacl;
    sacl = the_bits.at_sacl;
  }

  needs_met : (parts : SdParts) → ArePartsTold dir token number parts
      → first_failing (all_met dir token (parts_needs number parts)) ≡ None
  unfolding parts_of first_failing
  needs_met parts told =
      need_met (has_owner_or_group parts) write_owner
      (need_if (is_some parts.dacl) number write_dac ++ need_if (is_some parts.sacl) number access_system_security)
      (λ is. elim (or_cases (is_some parts.owner) (is_some parts.group) is) [
        | inl own ↦ sym the_bits.at_owner ∙ told.owner own
        | inr group ↦ sym the_bits.at_group ∙ told.group group
      ])
      (need_met (is_some parts.dacl) write_dac (need_if (is_some parts.sacl) number access_system_security)
      (λ is. sym the_bits.at_dacl ∙ told.dacl is)
      (ap (λ (rest : List (List Alternative)). first_failing (all_met dir token rest))
      (sym (alone (is_some parts.sacl) access_system_security))
      ∙ need_met (is_some parts.sacl) access_system_security [] (λ is. sym the_bits.at_sacl ∙ told.sacl is) refl))

  needs_were_met : (parts : SdParts) → first_failing (all_met dir token (parts_needs number parts)) ≡ None
      → ArePartsTold dir token number parts
  unfolding parts_of
  needs_were_met parts none =
      let first = need_was_met (has_owner_or_group parts) write_owner
      (need_if (is_some parts.dacl) number write_dac ++ need_if (is_some parts.sacl) number access_system_security)
      none in
      let second = need_was_met (is_some parts.dacl) write_dac
      (need_if (is_some parts.sacl) number access_system_security) first.1 in
      let third = need_was_met (is_some parts.sacl) access_system_security []
      (ap (λ (rest : List (List Alternative)). first_failing (all_met dir token rest))
      (alone (is_some parts.sacl) access_system_security) ∙ second.1) in
      record {
        owner = λ is. the_bits.at_owner ∙ first.0 (or_left (is_some parts.owner) (is_some parts.group) is);
        group = λ is. the_bits.at_group ∙ first.0 (or_right (is_some parts.owner) (is_some parts.group) is);
        dacl = λ is. the_bits.at_dacl ∙ second.0 is;
        sacl = λ is. the_bits.at_sacl ∙ third.0 is;
      }

-- ---- the request

has_asked : (flags : ℕ) (found : Option SdParts) (parts : SdParts) → option_map (asked_parts flags) found ≡ Some parts
    → has_part parts ≡ true
    → option_map_or (λ (p : SdParts). has_part (asked_parts flags p)) found false ≡ true
has_asked flags None parts is some = absurd (none-some parts is)
has_asked flags (Some p) parts is some = ap has_part (same_Some (asked_parts flags p) parts is) ∙ some

module _ (dir : Directory) (token : Token) (number : ℕ) (name value : List ℕ) (flags : ℕ) (parts : SdParts)
    (descriptor : is_descriptor name ≡ true) (asked : AreAsked flags value parts) where
  items : List Item
  items = only name value ∷ []

  written : written_sd (only name value ∷ []) flags ≡ Some parts
  written = ap (λ (b : Bool). option_map (asked_parts flags) (option_and_then (λ (item : Item). sd_in_one item.values)
      (cond b (Some (only name value)) None))) descriptor ∙ asked

  -- what it needs
  needs_are : modify_needs dir token number flags (only name value ∷ []) ≡ parts_needs number parts ++ []
  unfolding needs_behind
  needs_are =
      ap (λ (b : Bool). cond b (descriptor_needs number (written_sd (only name value ∷ []) flags))
      (cond (is_password name) (password_needs number (items_of (only name value ∷ []) name))
      (ordinary_needs dir token number (items_of (only name value ∷ []) name) (attr_place dir.schema name))) ++ [])
      descriptor
      ∙ ap (λ (sd : Option SdParts). descriptor_needs number sd ++ []) written

  -- its own checks hold
  own_hold : has_part parts ≡ true
      → first_failing (item_checks dir number flags (only name value ∷ []) (only name value)) ≡ None
  unfolding first_failing
  own_hold some =
      ap (λ (b : Bool). first_failing (cond b (descriptor_checks flags (only name value ∷ []) (only name value))
      (ordinary_checks dir number (only name value ∷ []) (only name value)))) descriptor
      ∙ ap (λ (mine : List Item). first_failing (or_code (nat_eq (length mine) 1) 53
      ∷ or_code (has_asked_part flags (value ∷ [])) 19 ∷ [])) (one_item name value)
      ∙ ap (λ (b : Bool). first_failing (or_code b 19 ∷ [])) (has_asked flags (sd_in_one (value ∷ [])) parts asked some)

pub parts_granted : (dir : Directory) (token : Token) (number : ℕ) (dn name value : List ℕ) (parts : SdParts)
    (settings : Settings) → IsSeenAs dir token number dn → is_descriptor name ≡ true
    → AreAsked settings.sd_flags value parts → has_part parts ≡ true → ArePartsTold dir token number parts
    → verdict_of dir token (ModifyOf (replacement dn name value)) settings
    ≡ Granted (modify_act dir token (replacement dn name value) settings.sd_flags)
unfolding verdict_of
parts_granted dir token number dn name value parts settings seen descriptor asked some told =
    ap (λ (found : Option Refusal). by_checks found
    (modify_act dir token (replacement dn name value) settings.sd_flags))
    (all_hold dir token number dn name value settings.sd_flags seen
    (own_hold dir token number name value settings.sd_flags parts descriptor asked some)
    (ap (λ (rest : List (List Alternative)). first_failing (all_met dir token rest))
    (needs_are dir token number name value settings.sd_flags parts descriptor asked
    ∙ append-nil (parts_needs number parts))
    ∙ needs_met dir token number parts told))

pub parts_told : (dir : Directory) (token : Token) (number : ℕ) (dn name value : List ℕ) (parts : SdParts)
    (settings : Settings) (act : Act) → IsSeenAs dir token number dn → is_descriptor name ≡ true
    → AreAsked settings.sd_flags value parts
    → verdict_of dir token (ModifyOf (replacement dn name value)) settings ≡ Granted act
    → ArePartsTold dir token number parts
unfolding verdict_of
parts_told dir token number dn name value parts settings act seen descriptor asked granted =
    let none = none_failed (first_failing
    (modify_checks dir token (replacement dn name value) settings.sd_flags))
    (modify_act dir token (replacement dn name value) settings.sd_flags) act granted in
    let held = all_held dir token number dn name value settings.sd_flags seen none in
    needs_were_met dir token number parts
    (ap (λ (rest : List (List Alternative)). first_failing (all_met dir token rest))
    (sym (needs_are dir token number name value settings.sd_flags parts descriptor asked
    ∙ append-nil (parts_needs number parts))) ∙ held.1)
