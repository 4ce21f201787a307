-- What is said of an operation by its checks after the controls, up to the required rights.
use Rattle.std.specs.Prelude.{◌≡◌, ◌≤◌}
use Rattle.std.specs.List.{AllByRecursion}
use Rattle.ad_ids.specs.declared.token.Token.{Token}
use Rattle.ad_ldap.specs.declared.controls.Settings.{Settings}
use Rattle.ad_ldap.specs.MessageValue.{OpValue, ModifyOf, AddOf, DeleteOf, RenameOf}
use Rattle.ad_dir_objects.specs.declared.act.Act.{Act}
use Rattle.ad_dir_model.specs.Directory.{Directory}
use Rattle.ad_needs_rules.specs.declared.outcome.Verdict.{Verdict}
use Rattle.ad_needs_rules.specs.declared.outcome.Verdict.TheVariants.{Granted, Refused}
use Rattle.ad_needs_rules.specs.Checks.{first_failing, by_checks}
use Rattle.ad_needs_rules.specs.Adding.{add_checks, add_act}
use Rattle.ad_needs_rules.specs.Deleting.{delete_checks, delete_act}
use Rattle.ad_needs_rules.specs.Renaming.{rename_checks, rename_act}
use Rattle.ad_needs_rules.specs.Modifying.{modify_checks, modify_act}
use Rattle.ad_ldap.specs.ResultCodes.{unwilling_to_perform}
use Rattle.ad_ldap.specs.Choices.{replace_values}

-- Nothing else is a change, and would be refused.
unfoldable pub verdict_of : Directory → Token → OpValue → Settings → Verdict
verdict_of dir token (AddOf a) s = by_checks (first_failing (add_checks dir token a s.sd_flags))
    (add_act dir token a s.sd_flags)
verdict_of dir token (DeleteOf dn) s = by_checks (first_failing (delete_checks dir token dn s.tree))
    (delete_act dir token dn s.tree)
verdict_of dir token (RenameOf r) s = by_checks (first_failing (rename_checks dir token r)) (rename_act dir token r)
verdict_of dir token (ModifyOf m) s = by_checks (first_failing (modify_checks dir token m s.sd_flags))
    (modify_act dir token m s.sd_flags)
verdict_of dir token _ s = Refused unwilling_to_perform

-- ---- the operations that change a directory

-- Add, Delete, Rename, or a Modify whose items add, delete or replace
abbrev pub IsChange : OpValue → Type 0
IsChange (AddOf a) = Unit {0}
IsChange (DeleteOf dn) = Unit {0}
IsChange (RenameOf r) = Unit {0}
IsChange (ModifyOf m) = AllByRecursion (λ item. item.op ≤ replace_values) m.items
IsChange _ = ⊥

-- on this directory the checks resolve some operation to the act
pub record Resolves (dir : Directory) (token : Token) (act : Act) : Type 0 where
  pub op : OpValue
  pub settings : Settings
  pub change : IsChange op
  pub granted : verdict_of dir token op settings ≡ Granted act
