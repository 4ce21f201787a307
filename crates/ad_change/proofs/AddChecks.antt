-- The checks of an addition, all together.
use Rattle.std.proofs.Common.{◌≡◌, ℕ, ◌+◌, Bool, true, false, not, List, [], ◌∷◌, ◌++◌, length}
use Rattle.std.proofs.Common.{drop, Option, Some, None, ap, ◌∙◌}
use Rattle.std.specs.Prelude.{nat_lt, ◌&&◌, is_some, is_none}
use Rattle.std.specs.List.{list_all, flat_map}
use Rattle.ad_ids.specs.declared.token.Token.{Token}
use Rattle.ad_sd.specs.declared.parts.SdParts.{SdParts}
use Rattle.ad_sd.specs.declared.parts.Sd.{Sd}
use Rattle.ad_schema.specs.declared.info.AttrId.{AttrId}
use Rattle.ad_schema.specs.declared.meaning.RuleAttr.TheVariants as rule
use Rattle.ad_dir_objects.specs.declared.object.Object.{Object as ObjectIn}
use Rattle.ad_dir_objects.specs.Seen.{object_seen}
use Rattle.ad_dir_model.specs.Attributes.{is_single}
use Rattle.ad_dir_model.specs.Changes.{new_sid, numbered}
use Rattle.ad_schema.specs.Classes.{is_under, is_allowed}
use Rattle.ad_dir_model.specs.Object.{Held}
use Rattle.ad_dir_model.specs.Directory.{Directory}
use Rattle.ad_dir_model.specs.Names.{child_named}
use Rattle.ad_needs_rules.specs.Checks.{Check, Refusal, code, or_code, first_failing}
use Rattle.ad_needs_rules.proofs.FirstFailing.{head_passes, head_fails, all_pass, one_fails}
use Rattle.ad_needs_rules.specs.Requests.{class_at}
use Rattle.ad_needs_rules.specs.Descriptors.{is_owner_allowed}
use Rattle.ad_change_values.specs.Values.{is_given_twice, leads, is_no_empty_password}
use Rattle.ad_change_values.specs.Judging.{reading_checks}
use Rattle.ad_change.specs.Adding.{all_held, attr_checks, has_musts, new_object, fits_in, add_later}
use Rattle.ad_change.specs.Creating.{sent_checks, IsNewObject}
use Rattle.ad_change.proofs.AddLaws.{then_fails, then_holds, both_none, later_fails, add_parts}

-- ---- the checks of an attribute

abbrev attr_rest : Directory → AttrId → List (List ℕ) → List Check
attr_rest dir attr sent =
    or_code (not (is_given_twice dir.schema attr.0 sent)) 20
    ∷ or_code (not (is_single dir.schema attr.0 && nat_lt 1 (length sent))) 19
    ∷ or_code (list_all (leads dir attr.0) sent) 19
    ∷ or_code (list_all (is_no_empty_password dir.schema attr.0) sent) 19
    ∷ []

module _ (dir : Directory) (attr : AttrId) (sent : List (List ℕ)) where
  pub attr_read_stops : (r : Refusal) → first_failing (reading_checks dir.schema attr.0 sent) ≡ Some r
      → first_failing (attr_checks dir (attr, sent)) ≡ Some r
  attr_read_stops r is = one_fails (reading_checks dir.schema attr.0 sent) (attr_rest dir attr sent) r is

  module _ (none : first_failing (reading_checks dir.schema attr.0 sent) ≡ None) where
    pub attr_twice : is_given_twice dir.schema attr.0 sent ≡ true → first_failing (attr_checks dir (attr, sent))
        ≡ Some (code 20)
    attr_twice is = then_fails (reading_checks dir.schema attr.0 sent) (drop 1 (attr_rest dir attr sent))
        (not (is_given_twice dir.schema attr.0 sent)) 20 none (ap not is)

    once : is_given_twice dir.schema attr.0 sent ≡ false
        → first_failing (reading_checks dir.schema attr.0 sent
        ++ or_code (not (is_given_twice dir.schema attr.0 sent)) 20 ∷ []) ≡ None
    once is = then_holds (reading_checks dir.schema attr.0 sent) (not (is_given_twice dir.schema attr.0 sent)) 20 none
        (ap not is)

    module _ (single : is_given_twice dir.schema attr.0 sent ≡ false) where
      pub attr_many : (is_single dir.schema attr.0 && nat_lt 1 (length sent)) ≡ true
          → first_failing (attr_checks dir (attr, sent)) ≡ Some (code 19)
      attr_many is = then_fails (reading_checks dir.schema attr.0 sent
          ++ or_code (not (is_given_twice dir.schema attr.0 sent)) 20 ∷ [])
          (drop 2 (attr_rest dir attr sent)) (not (is_single dir.schema attr.0 && nat_lt 1 (length sent))) 19
          (once single) (ap not is)

      few : (is_single dir.schema attr.0 && nat_lt 1 (length sent)) ≡ false
          → first_failing (reading_checks dir.schema attr.0 sent
          ++ (or_code (not (is_given_twice dir.schema attr.0 sent)) 20
          ∷ or_code (not (is_single dir.schema attr.0 && nat_lt 1 (length sent))) 19 ∷ [])) ≡ None
      few is = then_holds (reading_checks dir.schema attr.0 sent
          ++ or_code (not (is_given_twice dir.schema attr.0 sent)) 20 ∷ [])
          (not (is_single dir.schema attr.0 && nat_lt 1 (length sent))) 19 (once single) (ap not is)

      module _ (one : (is_single dir.schema attr.0 && nat_lt 1 (length sent)) ≡ false) where
        pub attr_lead_stops : (r : Refusal) → first_failing (or_code (list_all (leads dir attr.0) sent) 19 ∷ [])
            ≡ Some r
            → first_failing (attr_checks dir (attr, sent)) ≡ Some r
        attr_lead_stops r is = later_fails
            (reading_checks dir.schema attr.0 sent ++ (or_code (not (is_given_twice dir.schema attr.0 sent)) 20
            ∷ or_code (not (is_single dir.schema attr.0 && nat_lt 1 (length sent))) 19 ∷ []))
            (or_code (list_all (leads dir attr.0) sent) 19 ∷ [])
            (or_code (list_all (is_no_empty_password dir.schema attr.0) sent) 19 ∷ []) r (few one) is

        lead : first_failing (or_code (list_all (leads dir attr.0) sent) 19 ∷ []) ≡ None
            → first_failing (reading_checks dir.schema attr.0 sent
            ++ (or_code (not (is_given_twice dir.schema attr.0 sent)) 20
            ∷ or_code (not (is_single dir.schema attr.0 && nat_lt 1 (length sent))) 19
            ∷ or_code (list_all (leads dir attr.0) sent) 19 ∷ [])) ≡ None
        lead is = both_none (reading_checks dir.schema attr.0 sent
            ++ (or_code (not (is_given_twice dir.schema attr.0 sent)) 20
            ∷ or_code (not (is_single dir.schema attr.0 && nat_lt 1 (length sent))) 19 ∷ []))
            (or_code (list_all (leads dir attr.0) sent) 19 ∷ []) (few one) is

        pub attr_empty : first_failing (or_code (list_all (leads dir attr.0) sent) 19 ∷ []) ≡ None
            → list_all (is_no_empty_password dir.schema attr.0) sent ≡ false
            → first_failing (attr_checks dir (attr, sent)) ≡ Some (code 19)
        attr_empty leads_all is = then_fails
            (reading_checks dir.schema attr.0 sent ++ (or_code (not (is_given_twice dir.schema attr.0 sent)) 20
            ∷ or_code (not (is_single dir.schema attr.0 && nat_lt 1 (length sent))) 19
            ∷ or_code (list_all (leads dir attr.0) sent) 19 ∷ []))
            [] (list_all (is_no_empty_password dir.schema attr.0) sent) 19 (lead leads_all) is

        pub attr_fine : first_failing (or_code (list_all (leads dir attr.0) sent) 19 ∷ []) ≡ None
            → list_all (is_no_empty_password dir.schema attr.0) sent ≡ true
            → first_failing (attr_checks dir (attr, sent)) ≡ None
        attr_fine leads_all is = then_holds
            (reading_checks dir.schema attr.0 sent ++ (or_code (not (is_given_twice dir.schema attr.0 sent)) 20
            ∷ or_code (not (is_single dir.schema attr.0 && nat_lt 1 (length sent))) 19
            ∷ or_code (list_all (leads dir attr.0) sent) 19 ∷ []))
            (list_all (is_no_empty_password dir.schema attr.0) sent) 19 (lead leads_all) is

-- ---- the checks of what is sent

module _ (dir : Directory) (token : Token) (parent class : ℕ) (values : List (AttrId × List (List ℕ)))
    (sd : Option SdParts) where
  pub sent_owner : is_owner_allowed token sd ≡ false → first_failing (sent_checks dir token parent class values sd)
      ≡ Some (code 19)
  sent_owner is = head_fails (or_code (is_owner_allowed token sd) 19) _ is

  module _ (owner : is_owner_allowed token sd ≡ true) where
    pub sent_under : is_under dir.schema class (class_at dir parent) ≡ false
        → first_failing (sent_checks dir token parent class values sd) ≡ Some (code 64)
    sent_under is = head_passes (or_code (is_owner_allowed token sd) 19) _ owner
        ∙ head_fails (or_code (is_under dir.schema class (class_at dir parent)) 64) _ is

    module _ (under : is_under dir.schema class (class_at dir parent) ≡ true) where
      rest : List Check
      rest = or_code (list_all (λ (attr : AttrId × List (List ℕ)). is_allowed dir.schema class attr.0.0) values) 65
          ∷ or_code (has_musts dir class values) 65 ∷ []

      decided : first_failing (sent_checks dir token parent class values sd)
          ≡ first_failing (flat_map (attr_checks dir) values
          ++ (or_code (list_all (λ (attr : AttrId × List (List ℕ)). is_allowed dir.schema class attr.0.0) values) 65
          ∷ or_code (has_musts dir class values) 65 ∷ []))
      decided = head_passes (or_code (is_owner_allowed token sd) 19) _ owner
          ∙ head_passes (or_code (is_under dir.schema class (class_at dir parent)) 64) _ under

      pub sent_values : (r : Refusal) → first_failing (flat_map (attr_checks dir) values) ≡ Some r
          → first_failing (sent_checks dir token parent class values sd) ≡ Some r
      sent_values r is = decided ∙ one_fails (flat_map (attr_checks dir) values) _ r is

      module _ (each : first_failing (flat_map (attr_checks dir) values) ≡ None) where
        pub sent_allowed : list_all (λ (attr : AttrId × List (List ℕ)). is_allowed dir.schema class attr.0.0) values
            ≡ false
            → first_failing (sent_checks dir token parent class values sd) ≡ Some (code 65)
        sent_allowed is = decided ∙ then_fails (flat_map (attr_checks dir) values)
            (or_code (has_musts dir class values) 65 ∷ [])
            (list_all (λ (attr : AttrId × List (List ℕ)). is_allowed dir.schema class attr.0.0) values) 65 each is

        pub sent_musts : list_all (λ (attr : AttrId × List (List ℕ)). is_allowed dir.schema class attr.0.0) values
            ≡ true → has_musts dir class values ≡ false
            → first_failing (sent_checks dir token parent class values sd) ≡ Some (code 65)
        sent_musts allowed is = decided ∙ all_pass (flat_map (attr_checks dir) values) _ each
            ∙ head_passes (or_code (list_all (λ (attr : AttrId × List (List ℕ)). is_allowed dir.schema class attr.0.0)
            values) 65) _ allowed
            ∙ head_fails (or_code (has_musts dir class values) 65) [] is

        pub sent_fine : list_all (λ (attr : AttrId × List (List ℕ)). is_allowed dir.schema class attr.0.0) values
            ≡ true → has_musts dir class values ≡ true
            → first_failing (sent_checks dir token parent class values sd) ≡ None
        unfolding first_failing
        sent_fine allowed is = decided ∙ all_pass (flat_map (attr_checks dir) values) _ each
            ∙ head_passes (or_code (list_all (λ (attr : AttrId × List (List ℕ)). is_allowed dir.schema class attr.0.0)
            values) 65) (or_code (has_musts dir class values) 65 ∷ []) allowed
            ∙ head_passes (or_code (has_musts dir class values) 65) [] is

-- ---- all checks

module _ (dir : Directory) (token : Token) (parent class : ℕ) (name : List ℕ) (values : List (AttrId × List (List ℕ)))
    (sd : Option SdParts) where
  pub add_stops : (r : Refusal) → first_failing (sent_checks dir token parent class values sd) ≡ Some r
      → first_failing (add_later dir token parent class name values sd) ≡ Some r
  add_stops r is = ap first_failing (add_parts dir token parent class name values sd)
      ∙ one_fails (sent_checks dir token parent class values sd) _ r is

  module _ (none : first_failing (sent_checks dir token parent class values sd) ≡ None) where
    pub add_taken : is_none (child_named dir.objects parent name) ≡ false
        → first_failing (add_later dir token parent class name values sd) ≡ Some (code 68)
    add_taken is = ap first_failing (add_parts dir token parent class name values sd)
        ∙ then_fails (sent_checks dir token parent class values sd)
        (or_code (fits_in dir (new_object dir token parent class name values sd)) 11 ∷ [])
        (is_none (child_named dir.objects parent name)) 68 none is

    pub add_full : is_none (child_named dir.objects parent name) ≡ true
        → fits_in dir (new_object dir token parent class name values sd) ≡ false
        → first_failing (add_later dir token parent class name values sd) ≡ Some (code 11)
    add_full free is = ap first_failing (add_parts dir token parent class name values sd)
        ∙ all_pass (sent_checks dir token parent class values sd) _ none
        ∙ head_passes (or_code (is_none (child_named dir.objects parent name)) 68) _ free
        ∙ head_fails (or_code (fits_in dir (new_object dir token parent class name values sd)) 11) [] is

    pub add_fine : is_none (child_named dir.objects parent name) ≡ true
        → fits_in dir (new_object dir token parent class name values sd) ≡ true
        → first_failing (add_later dir token parent class name values sd) ≡ None
    unfolding first_failing
    add_fine free is = ap first_failing (add_parts dir token parent class name values sd)
        ∙ all_pass (sent_checks dir token parent class values sd) _ none
        ∙ head_passes (or_code (is_none (child_named dir.objects parent name)) 68)
        (or_code (fits_in dir (new_object dir token parent class name values sd)) 11 ∷ []) free
        ∙ head_passes (or_code (fits_in dir (new_object dir token parent class name values sd)) 11) [] is

  pub made_is_new : (object : ObjectIn) (held : List Held) (gets : Bool) → held ≡ all_held dir values
      → ((s : Sd) → object_seen object s ≡ numbered dir
      (record { number = 0; parent = parent; class = class; name = name; values = held; sd = s }))
      → gets ≡ is_some (new_sid dir class) → IsNewObject dir (new_object dir token parent class name values sd) object
      gets
  unfolding new_object
  made_is_new object held gets is seen gets_is = record {
    seen = seen (new_object dir token parent class name values sd).sd
        ∙ ap (λ (vs : List Held). numbered dir
        (record {
          number = 0;
          parent = parent;
          class = class;
          name = name;
          values = vs;
          sd
              = (new_object dir token parent class name values sd).sd;
        })) is;
    gets = gets_is;
  }
