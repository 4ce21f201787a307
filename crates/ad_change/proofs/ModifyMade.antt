-- The edits of a Modify whose checks hold may be applied, and make it.
use Rattle.std.proofs.Common.{◌≡◌, ℕ, ◌<◌, true, List, length, Option, Some, None, sym, subst, ap, ◌∙◌}
use Rattle.std.specs.List.{AllByRecursion, flat_map}
use Rattle.ad_ids.specs.declared.token.Token.{Token}
use Rattle.ad_sd.specs.declared.parts.Sd.{Sd}
use Rattle.ad_sd.specs.declared.parts.SdParts.{SdParts}
use Rattle.ad_schema.specs.Classes.{classes_of}
use Rattle.ad_dir_objects.specs.declared.act.ActItem.{ActItem}
use Rattle.ad_dir_objects.specs.declared.act.Act.TheVariants as act
use Rattle.ad_dir_objects.specs.declared.edit.Edit.{Edit as EditIn}
use Rattle.ad_dir.proofs.AllMay.{MayAll}
use Rattle.ad_dir_model.specs.Object.{Object}
use Rattle.ad_dir_model.specs.Objects.{object_at, is_live, parent_at}
use Rattle.ad_dir_model.specs.Tree.{root}
use Rattle.ad_dir_model.specs.Directory.{Directory, all_edited}
use Rattle.ad_dir_model.specs.Soundness.{IsSound}
use Rattle.ad_dir_model.proofs.Finding.{at_number}
use Rattle.ad_dir_model.proofs.ScratchLaws.{sound_at, below_at}
use Rattle.ad_dir_model.proofs.EditLaws.{changed_edited, written_edited}
use Rattle.ad_needs_rules.specs.Checks.{first_failing}
use Rattle.ad_needs_rules.proofs.FirstFailing.{head_holds, both_hold}
use Rattle.ad_change.specs.Tree.{fits_weight_limit}
use Rattle.ad_change_values.specs.Items.{after_items, all_item_checks, final_checks}
use Rattle.ad_change.specs.Modifying.{with_parts, modified_object, modify_later, modify_made}
use Rattle.ad_change.specs.Effects.{later_checks, made}
use Rattle.ad_change.specs.Plans.{AreEditsOf}
use Rattle.ad_change.specs.Judging.{AreNeeded, modify_edits}
use Rattle.ad_change.proofs.Contents.{ReadsBack}
use Rattle.ad_change.proofs.ModifySound.{IsPlainItem, with_all, may_replace}
use Rattle.ad_change.proofs.Needed.{needed_may}
use Rattle.ad_change.proofs.Applicable.{MayStand, keeps_place, change_may, write_may}

-- what is known of the object and its items
pub record IsModified (dir : Directory) (number : ℕ) (items : List ActItem) : Type 0 where
  pub back : ReadsBack
  pub sound : IsSound dir
  pub live : is_live dir.objects number ≡ true
  pub plain : AllByRecursion (IsPlainItem dir) items
  pub light : fits_weight_limit dir (modified_object dir number items) ≡ true

may_stand : (dir : Directory) (number : ℕ) (items : List ActItem) (sd : Sd) → IsModified dir number items
    → MayStand dir (with_all (object_at dir.objects number)
    (after_items dir (object_at dir.objects number).values items) sd)
may_stand dir number items sd is = keeps_place dir
    (with_all (object_at dir.objects number) (after_items dir (object_at dir.objects number).values items) sd)
    is.sound (may_replace is.back dir number items sd is.sound is.live is.plain is.light)
    (ap (λ (n : ℕ). parent_at dir.objects n) (sym (at_number dir.objects number is.live)))

all_may : (dir : Directory) (number : ℕ) (items : List ActItem) (sd : Option SdParts) → IsModified dir number items
    → MayAll dir (modify_edits dir (modified_object dir number items) sd)
all_may dir number items None is =
    change_may dir (modified_object dir number items) is.sound
    (may_stand dir number items (object_at dir.objects number).sd is)
all_may dir number items (Some parts) is =
    write_may dir (record (modified_object dir number items)
    { sd = with_parts parts (object_at dir.objects number).sd }) is.sound
    (may_stand dir number items (with_parts parts (object_at dir.objects number).sd) is)

all_made : (dir : Directory) (number : ℕ) (items : List ActItem) (sd : Option SdParts)
    → all_edited (modify_edits dir (modified_object dir number items) sd) dir ≡ modify_made dir number items sd
unfolding modify_made
all_made dir number items None = changed_edited dir (modified_object dir number items)
all_made dir number items (Some parts) =
    written_edited dir (record (modified_object dir number items)
    { sd = with_parts parts (modified_object dir number items).sd })

-- the last check is that of the weight
light_then : (dir : Directory) (token : Token) (number : ℕ) (items : List ActItem) (sd : Option SdParts)
    → first_failing (modify_later dir token number items sd) ≡ None
    → fits_weight_limit dir (modified_object dir number items) ≡ true
unfolding modify_later
light_then dir token number items sd none =
    let o : Object = object_at dir.objects number in
    let owner = head_holds _ _ none in
    let behind = both_hold (all_item_checks dir o.values items) _ owner.1 in
    let final = both_hold (flat_map (final_checks dir.schema o.class (after_items dir o.values items)) _) _ behind.1 in
    (head_holds _ _ final.1).0

pub modify_plan_is : ReadsBack → (dir : Directory) (token : Token) (number : ℕ) (items : List ActItem)
    (sd : Option SdParts) (edits : List EditIn)
    → IsSound dir → is_live dir.objects number ≡ true → AllByRecursion (IsPlainItem dir) items
    → first_failing (modify_later dir token number items sd) ≡ None
    → AreNeeded dir (modify_edits dir (modified_object dir number items) sd) edits
    → AreEditsOf dir token (act.Modify number items sd) edits
unfolding later_checks made
modify_plan_is back dir token number items sd edits sound live plain none needed =
    let is : IsModified dir number items =
    record {
      back = back;
      sound = sound;
      live = live;
      plain = plain;
      light = light_then dir token number items sd
          none;
    } in record {
      holds = none;
      may = needed_may dir (modify_edits dir (modified_object dir number items) sd) edits needed
          (all_may dir number items sd is);
      make = needed.make ∙ all_made dir number items sd;
      nothing = λ same. needed.nothing (all_made dir number items sd ∙ same);
    }

-- ---- the object that is put

-- an object that is as it is made stands where the one before stands
pub record IsPut (dir : Directory) (number : ℕ) (o : Object) : Type 0 where
  pub same : o.number ≡ number
  pub live : is_live dir.objects o.number ≡ true
  pub class : o.class < length (classes_of dir.schema)
  pub parent : (o.number ≡ root → ⊥) → is_live dir.objects o.parent ≡ true

pub modified_is_put : (dir : Directory) (number : ℕ) (items : List ActItem) (o : Object) → IsSound dir
    → is_live dir.objects number ≡ true
    → o ≡ modified_object dir number items → IsPut dir number o
modified_is_put dir number items o sound live is = subst (IsPut dir number) (sym is) (record {
  same = same;
  live = here;
  class = (sound_at dir sound.each number live).content.class_of_schema;
  parent = λ below. (below_at dir sound.each number live (λ e. below (same ∙ e))).parent_live;
})
  where
    same : (object_at dir.objects number).number ≡ number
    same = at_number dir.objects number live

    here : is_live dir.objects (object_at dir.objects number).number ≡ true
    here = subst (λ (n : ℕ). is_live dir.objects n ≡ true) (sym same) live
