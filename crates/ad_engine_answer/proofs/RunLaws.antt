-- The edits of a protection run as what was decided of it.
use Rattle.std.proofs.Common.{◌≡◌, ◌∙◌, ℕ, false, List, sym, ap, subst}
use Rattle.ad_dir_objects.specs.declared.edit.Edit.{Edit}
use Rattle.ad_dir_model.specs.Directory.{Directory}
use Rattle.ad_dir_model.specs.Protection.{protection_run}
use Rattle.ad_dir_model.specs.Soundness.{IsSound}
use Rattle.ad_protect.specs.Run.{MakeRun}
use Rattle.ad_engine_answer.specs.declared.decided.Decided.{Decided}
use Rattle.ad_engine_answer.specs.Output.{counts}
use Rattle.ad_engine_answer.specs.Decided.{AreEditsTo, IsRun}

pub run_is : (dir : Directory) (decided : Decided) (edits : List Edit) (changed protected : ℕ)
    → IsSound (protection_run dir).directory
    → MakeRun dir edits changed protected → decided.reply ≡ counts changed protected → decided.edits ≡ edits
    → decided.drops ≡ false → IsRun dir decided
run_is dir decided edits changed protected sound make reply same drops = record {
  reply = reply ∙ ap (λ (n : ℕ). counts n protected) make.changed_is
      ∙ ap (λ (n : ℕ). counts (protection_run dir).changed n) make.protected_is;
  edits = subst (λ (es : List Edit). AreEditsTo dir es (protection_run dir).directory)
      (sym same) (record { may = make.may; make = make.make; sound = sound; nothing = make.nothing });
  drops = drops;
}
