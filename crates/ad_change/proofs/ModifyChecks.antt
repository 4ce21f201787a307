-- The checks of a Modify, of which those of its values are judged together.
use Rattle.std.proofs.Common.{◌≡◌, ℕ, true, false, List, [], ◌∷◌, ◌++◌, Option, Some, None, sym, ap, ◌∙◌, append_assoc}
use Rattle.std.specs.Prelude.{filter}
use Rattle.std.specs.List.{flat_map}
use Rattle.ad_ids.specs.declared.token.Token.{Token}
use Rattle.ad_sd.specs.declared.parts.SdParts.{SdParts}
use Rattle.ad_dir_objects.specs.declared.act.ActItem.{ActItem}
use Rattle.ad_dir_model.specs.Object.{Object}
use Rattle.ad_dir_model.specs.Objects.{object_at}
use Rattle.ad_dir_model.specs.Directory.{Directory}
use Rattle.ad_needs_rules.specs.Checks.{Refusal, Check, code, or_code, first_failing}
use Rattle.ad_needs_rules.specs.Descriptors.{is_owner_allowed}
use Rattle.ad_needs_rules.proofs.FirstFailing.{head_passes, head_fails, all_pass, one_fails}
use Rattle.ad_change_values.specs.Values.{all_attrs}
use Rattle.ad_change.specs.Tree.{fits_weight_limit}
use Rattle.ad_change_values.specs.Items.{after_items, all_item_checks, final_checks, is_item_named}
use Rattle.ad_change.specs.Modifying.{modified_object, modify_later}
use Rattle.ad_change_values.specs.Judging.{value_checks}

abbrev values_of : Directory → ℕ → List ActItem → List Check
values_of dir number items = let o : Object = object_at dir.objects number in value_checks dir o.class o.values items

abbrev weight_of : Directory → ℕ → List ActItem → List Check
weight_of dir number items = or_code (fits_weight_limit dir (modified_object dir number items)) 11 ∷ []

-- the checks, with those of values as one list
later_is : (dir : Directory) (token : Token) (number : ℕ) (items : List ActItem) (sd : Option SdParts)
    → first_failing (modify_later dir token number items sd)
    ≡ first_failing (or_code (is_owner_allowed token sd) 19
    ∷ (values_of dir number items ++ weight_of dir number items))
unfolding modify_later
later_is dir token number items sd =
    let o : Object = object_at dir.objects number in
    ap (λ (cs : List Check). first_failing (or_code (is_owner_allowed token sd) 19 ∷ cs))
    (sym (append_assoc (all_item_checks dir o.values items)
    (flat_map (final_checks dir.schema o.class (after_items dir o.values items))
    (filter (is_item_named items) (all_attrs dir.schema)))
    (weight_of dir number items)))

pub owner_stops : (dir : Directory) (token : Token) (number : ℕ) (items : List ActItem) (sd : Option SdParts)
    → is_owner_allowed token sd ≡ false
    → first_failing (modify_later dir token number items sd) ≡ Some (code 19)
owner_stops dir token number items sd owner =
    later_is dir token number items sd
    ∙ head_fails (or_code (is_owner_allowed token sd) 19) (values_of dir number items ++ weight_of dir number items)
    owner

-- after the owner
behind_owner : (dir : Directory) (token : Token) (number : ℕ) (items : List ActItem) (sd : Option SdParts)
    → is_owner_allowed token sd ≡ true
    → first_failing (modify_later dir token number items sd)
    ≡ first_failing (values_of dir number items ++ weight_of dir number items)
behind_owner dir token number items sd owner =
    later_is dir token number items sd
    ∙ head_passes (or_code (is_owner_allowed token sd) 19) (values_of dir number items ++ weight_of dir number items)
    owner

pub values_stop : (dir : Directory) (token : Token) (number : ℕ) (items : List ActItem) (sd : Option SdParts)
    (r : Refusal)
    → is_owner_allowed token sd ≡ true → first_failing (values_of dir number items) ≡ Some r
    → first_failing (modify_later dir token number items sd) ≡ Some r
values_stop dir token number items sd r owner is =
    behind_owner dir token number items sd owner ∙ one_fails (values_of dir number items) (weight_of dir number items)
    r is

pub weight_stops : (dir : Directory) (token : Token) (number : ℕ) (items : List ActItem) (sd : Option SdParts)
    → is_owner_allowed token sd ≡ true → first_failing (values_of dir number items) ≡ None
    → fits_weight_limit dir (modified_object dir number items) ≡ false
    → first_failing (modify_later dir token number items sd) ≡ Some (code 11)
weight_stops dir token number items sd owner none heavy =
    behind_owner dir token number items sd owner ∙ all_pass (values_of dir number items) (weight_of dir number items)
    none
    ∙ head_fails (or_code (fits_weight_limit dir (modified_object dir number items)) 11) [] heavy

pub all_hold : (dir : Directory) (token : Token) (number : ℕ) (items : List ActItem) (sd : Option SdParts)
    → is_owner_allowed token sd ≡ true → first_failing (values_of dir number items) ≡ None
    → fits_weight_limit dir (modified_object dir number items) ≡ true
    → first_failing (modify_later dir token number items sd) ≡ None
unfolding first_failing
all_hold dir token number items sd owner none light =
    behind_owner dir token number items sd owner ∙ all_pass (values_of dir number items) (weight_of dir number items)
    none
    ∙ head_passes (or_code (fits_weight_limit dir (modified_object dir number items)) 11) [] light
