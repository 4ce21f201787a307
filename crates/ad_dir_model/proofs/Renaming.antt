-- A rename is a write of the naming value in place, or a move.
use Rattle.std.proofs.Common.{◌≡◌, ℕ, true, List, sym, ap, inl, inr, ◌∙◌}
use Rattle.std.specs.Prelude.{nat_eq}
use Rattle.std.proofs.lemmas.Bool.{eqb-true, eqb-false, cases_Bool}
use Rattle.ad_dir_model.specs.Object.{Object}
use Rattle.ad_dir_model.specs.Objects.{is_live, object_at}
use Rattle.ad_dir_model.specs.Directory.{Directory}
use Rattle.ad_dir_model.specs.Changes.{renamed_object, renamed}
use Rattle.ad_dir_model.specs.Soundness.{IsSound}
use Rattle.ad_dir_model.specs.Conditions.{MayReplace, MayMove}
use Rattle.ad_dir_model.proofs.Finding.{at_number}
use Rattle.ad_dir_model.proofs.Writing.{changed_sound, moved_sound}

pub renamed_sound : (dir : Directory) (number parent : ℕ) (name : List ℕ) → IsSound dir → is_live dir.objects number
    ≡ true
    → MayReplace dir (renamed_object (object_at dir.objects number) parent name)
    → (((object_at dir.objects number).parent ≡ parent → ⊥)
    → MayMove dir (renamed_object (object_at dir.objects number) parent name))
    → IsSound (renamed dir number parent name)
unfolding renamed
renamed_sound dir number parent name sound live may move =
    elim (cases_Bool (nat_eq (object_at dir.objects number).parent parent)) [
      | inl same ↦ rw same (changed_sound dir object sound may
          (sym (eqb-true (object_at dir.objects number).parent parent same) ∙ ap (λ (x : Object). x.parent) at)
          (record { class = ap (λ (x : Object). x.class) at; sd = ap (λ (x : Object). x.sd) at }))
      | inr differ ↦ rw differ (moved_sound dir object sound may
          (move (eqb-false (object_at dir.objects number).parent parent differ)))
    ]
  where
    object : Object
    object = renamed_object (object_at dir.objects number) parent name

    at : object_at dir.objects number ≡ object_at dir.objects (object_at dir.objects number).number
    at = ap (object_at dir.objects) (sym (at_number dir.objects number live))
