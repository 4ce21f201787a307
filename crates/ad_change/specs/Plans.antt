-- What a plan is.
use Rattle.std.specs.Prelude.{◌≡◌, Some, None, List, [], map}
use Rattle.ad_ids.specs.declared.token.Token.{Token}
use Rattle.ad_dir_objects.specs.declared.act.Act.{Act}
use Rattle.ad_dir_objects.specs.declared.edit.Edit.{Edit}
use Rattle.ad_dir.specs.Applying.{MayApplyAll}
use Rattle.ad_dir_objects.specs.Seen.{edit_seen}
use Rattle.ad_dir_model.specs.Directory.{Directory, all_edited}
use Rattle.ad_needs_rules.specs.Checks.{code, first_failing}
use Rattle.ad_change.specs.declared.outcome.Plan.{Plan}
use Rattle.ad_change.specs.declared.outcome.Plan.TheVariants as plan
use Rattle.ad_change.specs.Effects.{later_checks, made}

-- all checks after the required rights hold, and the edits make the change; where it changes nothing, there is none
pub record AreEditsOf (dir : Directory) (token : Token) (act : Act) (edits : List Edit) : Type 0 where
  pub holds : first_failing (later_checks dir token act) ≡ None
  pub may : MayApplyAll dir edits
  pub make : all_edited (map edit_seen edits) dir ≡ made dir token act
  pub nothing : made dir token act ≡ dir → edits ≡ []

-- the first check after the required rights that fails, or the edits
abbrev pub IsPlan : Directory → Token → Act → Plan → Type 0
IsPlan dir token act (plan.Refused number) = first_failing (later_checks dir token act) ≡ Some (code number)
IsPlan dir token act (plan.Edits edits) = AreEditsOf dir token act edits
