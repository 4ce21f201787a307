-- What a Modify of a descriptor's DACL does: it is refused with a code that isn't 0, or the list is written.
use Rattle.std.proofs.Common.{◌≡◌, ℕ, true, false, List, [], ◌∷◌, Option, Some, None, Ok, refl, sym, ap, subst, ◌∙◌}
use Rattle.std.proofs.Common.{arith, inl, inr}
use Rattle.std.specs.Prelude.{is_some, unwrap_or, filter}
use Rattle.std.specs.Option.{option_and_then}
use Rattle.std.specs.List.{flat_map}
use Rattle.std.proofs.lemmas.Bool.{cases_Bool, false≢true}
use Rattle.ad_ids.specs.declared.token.Token.{Token}
use Rattle.ad_acl.specs.Mask.{has_bit}
use Rattle.ad_sd.specs.declared.parts.AceList.{AceList}
use Rattle.ad_sd.specs.declared.parts.SdParts.{SdParts}
use Rattle.ad_sd.specs.Reading.{parts_of}
use Rattle.ad_ldap.specs.declared.controls.Settings.{Settings}
use Rattle.ad_ldap.specs.declared.requests.Modify.{Modify}
use Rattle.ad_ldap.specs.MessageValue.{ModifyOf}
use Rattle.ad_schema_classes.specs.Names.{same_name}
use Rattle.ad_schema.specs.declared.line.SchemaRecord.{SchemaRecord}
use Rattle.ad_dir_objects.specs.declared.act.Act.{Act}
use Rattle.ad_dir_objects.specs.declared.act.Act.TheVariants as act
use Rattle.ad_dir_model.specs.Objects.{object_at}
use Rattle.ad_dir_model.specs.Directory.{Directory}
use Rattle.ad_dir_model.specs.Inheritance.{written}
use Rattle.ad_dir_model.specs.Names.{found}
use Rattle.ad_access_dir.specs.Sight.{is_visible, if_visible, visible_of}
use Rattle.ad_needs_rules.specs.Checks.{Refusal, code, hidden, missing, first_failing, refused, by_checks, or_code}
use Rattle.ad_needs_rules.specs.Descriptors.{asked_parts}
use Rattle.ad_needs_rules.specs.Requests.{parts_in, object_named, number_named, or_hidden, is_name}
use Rattle.ad_needs_rules.proofs.FirstFailing.{head_holds}
use Rattle.ad_needs_rules.specs.Modifying.{written_sd, modify_needs, modify_checks, act_items, modify_act}
use Rattle.ad_needs_rules.specs.Verdicts.{verdict_of}
use Rattle.ad_change_values.specs.Items.{after_items, all_item_checks, final_checks, is_item_named}
use Rattle.ad_change_values.specs.Values.{all_attrs}
use Rattle.ad_change.specs.Modifying.{modify_later, modify_made}
use Rattle.ad_change.specs.Effects.{Effect, answered, changes_to, told, later_checks, made, by_later, by_verdict}
use Rattle.ad_change.specs.Effects.{effect}
use Rattle.ad_ldifmod.specs.Messages.{list_alone, sd_item}
use Rattle.ad_ldifmod_laws.specs.Keeping.{with_list}
use Rattle.ad_ldifmod_laws.proofs.Codes.{IsCode, IsProper, AreProper, first_proper, both_proper, each_proper}
use Rattle.ad_ldifmod_laws.proofs.Codes.{met_proper}

-- the object that the name leads to has the list
pub record IsMadeOf (dir : Directory) (name : List ℕ) (list : AceList) (now : Directory) : Type 0 where
  pub number : ℕ
  pub named : found dir (parts_in name) ≡ Some number
  pub is : now ≡ written dir (with_list list (object_at dir.objects number))

abbrev pub EffectIs : Directory → List ℕ → AceList → Effect → Type 0
EffectIs dir name list (answered number matched text) = IsCode number
EffectIs dir name list (changes_to now) = IsMadeOf dir name list now

abbrev flags : Settings
flags = record { sd_flags = 4; tree = false }

abbrev request : List ℕ → List ℕ → Modify
request name sd = record { dn = name; items = sd_item sd ∷ [] }

-- ---- a refusal

told_is : (dir : Directory) (name : List ℕ) (list : AceList) (r : Refusal) → IsProper r
    → EffectIs dir name list (told dir (refused r))
told_is dir name list (code number) is = is
told_is dir name list (hidden rdns) is = (omega arith, omega arith)
told_is dir name list (missing need) is = (omega arith, omega arith)

-- ---- the checks

checks_proper : (dir : Directory) (token : Token) (name sd : List ℕ)
    → AreProper (modify_checks dir token (request name sd) 4)
unfolding modify_checks same_name
checks_proper dir token name sd = (
  (omega arith, omega arith),
  (
    tt,
    (
      (omega arith, omega arith),
      (
        (omega arith, omega arith),
        met_proper dir token (modify_needs dir token (number_named dir token name) 4 (sd_item sd ∷ [])),
      ),
    ),
  ),
)

later_proper : (dir : Directory) (token : Token) (number : ℕ) (parts : SdParts)
    → AreProper (later_checks dir token (act.Modify number [] (Some parts)))
unfolding later_checks modify_later all_item_checks
later_proper dir token number parts =
    let o = object_at dir.objects number in (
      (omega arith, omega arith),
      both_proper (flat_map (final_checks dir.schema o.class (after_items dir o.values []))
          (filter (is_item_named []) (all_attrs dir.schema))) _
          (each_proper (final_checks dir.schema o.class (after_items dir o.values []))
          (filter (is_item_named []) (all_attrs dir.schema))
          (λ attr. ((omega arith, omega arith), ((omega arith, omega arith), ((omega arith, omega arith), tt)))))
          ((omega arith, omega arith), tt),
    )

-- ---- the name

named_is : (dir : Directory) (token : Token) (name : List ℕ) → is_some (object_named dir token name) ≡ true
    → found dir (parts_in name) ≡ Some (number_named dir token name)
unfolding object_named visible_of
named_is dir token name is = by (found dir (parts_in name)) is
  where
    by : (f : Option ℕ) → is_some (option_and_then (if_visible dir token) f) ≡ true → f
        ≡ Some (unwrap_or (option_and_then (if_visible dir token) f) 0)
    by None e = absurd cc
    by (Some n) e = elim (cases_Bool (is_visible dir token n)) [
      | inl seen ↦ rw seen refl
      | inr unseen ↦ absurd (false≢true (rw unseen at e))
    ]

-- ---- what is asked for

no_items : (schema : List SchemaRecord) (sd : List ℕ) → act_items schema (sd_item sd ∷ []) ≡ []
unfolding act_items same_name
no_items schema sd = refl

parts_are : (sd : List ℕ) (list : AceList) → parts_of sd ≡ Ok (list_alone list) → written_sd (sd_item sd ∷ []) 4
    ≡ Some (list_alone list)
unfolding same_name asked_parts has_bit
parts_are sd list e = rw e refl

act_is : (dir : Directory) (token : Token) (name sd : List ℕ) (list : AceList) → parts_of sd ≡ Ok (list_alone list)
    → modify_act dir token (request name sd) 4 ≡ act.Modify (number_named dir token name) [] (Some (list_alone list))
act_is dir token name sd list e =
    ap (λ items. act.Modify (number_named dir token name) items (written_sd (sd_item sd ∷ []) 4))
    (no_items dir.schema sd)
    ∙ ap (λ (parts : Option SdParts). act.Modify (number_named dir token name) [] parts) (parts_are sd list e)

-- ---- what is made of it

abbrev LaterIs : Directory → Token → List ℕ → AceList → Act → Type 0
LaterIs dir token name list act = EffectIs dir name list
    (by_later dir token act (first_failing (later_checks dir token act)))

later_is : (dir : Directory) (token : Token) (name : List ℕ) (list : AceList) (number : ℕ) → found dir (parts_in name)
    ≡ Some number
    → LaterIs dir token name list (act.Modify number [] (Some (list_alone list)))
unfolding made modify_made after_items
later_is dir token name list number named =
    by (first_failing (later_checks dir token (act.Modify number [] (Some (list_alone list))))) refl
  where
    by : (o : Option Refusal) → first_failing (later_checks dir token (act.Modify number [] (Some (list_alone list))))
        ≡ o
        → EffectIs dir name list (by_later dir token (act.Modify number [] (Some (list_alone list))) o)
    by None e = record { number = number; named = named; is = refl }
    by (Some r) e = told_is dir name list r
        (first_proper (later_checks dir token (act.Modify number [] (Some (list_alone list)))) r
        (later_proper dir token number (list_alone list)) e)

found_there : (dir : Directory) (token : Token) (name sd : List ℕ)
    → first_failing (modify_checks dir token (request name sd) 4) ≡ None → found dir (parts_in name)
    ≡ Some (number_named dir token name)
unfolding modify_checks
found_there dir token name sd e =
    let behind = head_holds (or_code (is_name name) 34) _ e in
    let here = head_holds (or_hidden dir token name) _ behind.1 in
    named_is dir token name here.0

pub effect_is : (dir : Directory) (token : Token) (name sd : List ℕ) (list : AceList) → parts_of sd
    ≡ Ok (list_alone list)
    → EffectIs dir name list (effect dir token (ModifyOf (request name sd)) flags)
unfolding effect verdict_of
effect_is dir token name sd list reads = by (first_failing (modify_checks dir token (request name sd) 4)) refl
  where
    by : (o : Option Refusal) → first_failing (modify_checks dir token (request name sd) 4) ≡ o
        → EffectIs dir name list (by_verdict dir token (by_checks o (modify_act dir token (request name sd) 4)))
    by None e =
        subst (LaterIs dir token name list) (sym (act_is dir token name sd list reads))
        (later_is dir token name list (number_named dir token name) (found_there dir token name sd e))
    by (Some (code number)) e = first_proper (modify_checks dir token (request name sd) 4) (code number)
        (checks_proper dir token name sd) e
    by (Some (hidden rdns)) e = (omega arith, omega arith)
    by (Some (missing need)) e = (omega arith, omega arith)
