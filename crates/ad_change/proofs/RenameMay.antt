-- The edits of a rename or a move may be applied, and make it.
use Rattle.std.proofs.Common.{◌≡◌, ℕ, Bool, true, false, List, Option, Some, None, refl, sym, ap, ◌∙◌}
use Rattle.std.specs.Prelude.{nat_eq, option_map, if◌then◌else◌}
use Rattle.std.specs.Option.{option_map_or}
use Rattle.std.proofs.lemmas.Bool.{eqb-true, eqb-false, and_parts, or_parts}
use Rattle.std.proofs.lemmas.Option.{none-some, same_Some}
use Rattle.ad_ids.specs.declared.token.Token.{Token}
use Rattle.ad_dir_objects.specs.declared.act.Act.TheVariants as act
use Rattle.ad_dir_objects.specs.declared.edit.Edit.{Edit as EditIn}
use Rattle.ad_dir.proofs.AllMay.{MayAll}
use Rattle.ad_dir_model.specs.Object.{Object}
use Rattle.ad_dir_model.specs.Objects.{object_at}
use Rattle.ad_dir_model.specs.Directory.{Directory, parents}
use Rattle.ad_dir_model.specs.Edits.{change_edits, write_edits, rename_edits}
use Rattle.ad_dir_model.specs.Changes.{renamed_object, goes_with}
use Rattle.ad_dir_model.specs.Soundness.{IsSound}
use Rattle.ad_dir_model.specs.Conditions.{MayReplace}
use Rattle.ad_dir_model.proofs.EditLaws.{renamed_edited}
use Rattle.ad_dir_model.proofs.Finding.{at_number}
use Rattle.ad_needs_rules.specs.Checks.{first_failing}
use Rattle.ad_needs_rules.proofs.FirstFailing.{head_holds}
use Rattle.ad_change.specs.Effects.{later_checks, made}
use Rattle.ad_change.specs.Judging.{AreNeeded}
use Rattle.ad_change.specs.Plans.{AreEditsOf}
use Rattle.ad_change.specs.Renaming.{rename_later}
use Rattle.ad_change.specs.Tree.{is_shallow_with, fits_weight_limit}
use Rattle.ad_change.proofs.Needed.{needed_may}
use Rattle.ad_change.proofs.Applicable.{keeps_place, moves, change_may, write_may}
use Rattle.ad_change.proofs.RenameSound.{may_replace, may_move}
use Rattle.ad_change.proofs.Resolved.{IsRenaming}

-- another child of the name, or none
pub other_child : (found : Option Object) (n target : ℕ) → Some n ≡ option_map (λ (o : Object). o.number) found
    → nat_eq n target ≡ option_map_or (λ (o : Object). nat_eq o.number target) found true
other_child None n target is = absurd (none-some n (sym is))
other_child (Some o) n target is = ap (λ (k : ℕ). nat_eq k target) (same_Some n o.number is)

pub no_other_child : (found : Option Object) (target : ℕ) → None ≡ option_map (λ (o : Object). o.number) found
    → true ≡ option_map_or (λ (o : Object). nat_eq o.number target) found true
no_other_child None target is = refl
no_other_child (Some o) target is = absurd (none-some o.number is)

rename_may : (dir : Directory) (target parent : ℕ) (name : List ℕ) → IsSound dir → IsRenaming dir target parent name
    → first_failing (rename_later dir target parent name) ≡ None → MayAll dir (rename_edits dir target parent name)
unfolding rename_later goes_with
rename_may dir target parent name sound is none =
    by_place (nat_eq (parents dir target) parent) refl
  where
    o : Object
    o = renamed_object (object_at dir.objects target) parent name

    number : (object_at dir.objects target).number ≡ target
    number = at_number dir.objects target is.live

    replace : MayReplace dir (renamed_object (object_at dir.objects target) parent name)
    replace =
        let first = head_holds _ _ none in
        let second = head_holds _ _ first.1 in
        let third = head_holds _ _ second.1 in
        let fits = and_parts (is_shallow_with dir (renamed_object (object_at dir.objects target) parent name))
        (fits_weight_limit dir (renamed_object (object_at dir.objects target) parent name)) third.0 in
        may_replace dir target parent name sound is.live is.value second.0 fits.1

    shallow : is_shallow_with dir (renamed_object (object_at dir.objects target) parent name) ≡ true
    shallow =
        let first = head_holds _ _ none in
        let second = head_holds _ _ first.1 in
        let third = head_holds _ _ second.1 in
        (and_parts (is_shallow_with dir (renamed_object (object_at dir.objects target) parent name))
        (fits_weight_limit dir (renamed_object (object_at dir.objects target) parent name)) third.0).0

    apart : (parents dir target ≡ parent → ⊥) → target ≡ parent → ⊥
    apart differ same = eqb-false parent target (or_parts (nat_eq parent target) _ (is.outside differ)).0 (sym same)

    by_place : (in_place : Bool) → nat_eq (parents dir target) parent ≡ in_place
        → MayAll dir (if in_place then change_edits (renamed_object (object_at dir.objects target) parent name)
        else write_edits dir (renamed_object (object_at dir.objects target) parent name))
    by_place true e =
        let keeps : parent ≡ parents dir (object_at dir.objects target).number
        = sym (eqb-true (parents dir target) parent e) ∙ ap (parents dir) (sym number) in
        change_may dir (renamed_object (object_at dir.objects target) parent name) sound
        (keeps_place dir (renamed_object (object_at dir.objects target) parent name) sound replace keeps)
    by_place false e =
        let differ : parents dir target ≡ parent → ⊥ = eqb-false (parents dir target) parent e in
        write_may dir (renamed_object (object_at dir.objects target) parent name) sound
        (moves dir (renamed_object (object_at dir.objects target) parent name) replace
        (may_move dir target parent name is.live is.below is.parent_live (apart differ) shallow))

pub renaming_is : (dir : Directory) (token : Token) (target parent : ℕ) (name : List ℕ) (edits : List EditIn)
    → IsSound dir
    → IsRenaming dir target parent name → first_failing (rename_later dir target parent name) ≡ None
    → AreNeeded dir (rename_edits dir target parent name) edits → AreEditsOf dir token (act.Rename target parent name)
    edits
unfolding later_checks made
renaming_is dir token target parent name edits sound is none needed = record {
  holds = none;
  may = needed_may dir (rename_edits dir target parent name) edits needed
      (rename_may dir target parent name sound is none);
  make = needed.make ∙ renamed_edited dir target parent name;
  nothing = λ same. needed.nothing (renamed_edited dir target parent name ∙ same);
}
