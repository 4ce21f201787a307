-- What an operation makes of a directory: the answer of its first check that fails, or the new directory.
use Rattle.std.specs.Prelude.{ℕ, Option, Some, None, List, []}
use Rattle.ad_ids.specs.declared.token.Token.{Token}
use Rattle.ad_dn.specs.Text.{rdns_text}
use Rattle.ad_ldap.specs.declared.controls.Settings.{Settings}
use Rattle.ad_ldap.specs.MessageValue.{OpValue}
use Rattle.ad_dir_objects.specs.declared.act.Act.{Act}
use Rattle.ad_dir_objects.specs.declared.act.Act.TheVariants as act
use Rattle.ad_dir_model.specs.Directory.{Directory}
use Rattle.ad_needs_rules.specs.declared.outcome.Verdict.{Verdict}
use Rattle.ad_needs_rules.specs.declared.outcome.Verdict.TheVariants.{Granted, Refused, Hidden, Missing}
use Rattle.ad_needs_rules.specs.Needs.{need_text}
use Rattle.ad_needs_rules.specs.Checks.{Check, Refusal, first_failing, refused}
use Rattle.ad_needs_rules.specs.Verdicts.{verdict_of}
use Rattle.ad_change.specs.Adding.{add_later, add_made}
use Rattle.ad_change.specs.Deleting.{delete_later, delete_made}
use Rattle.ad_change.specs.Renaming.{rename_later, rename_made}
use Rattle.ad_change.specs.Modifying.{modify_later, modify_made}
use Rattle.ad_ldap.specs.ResultCodes.{no_such_object, insufficient_access_rights}

-- ---- an act

unfoldable pub later_checks : Directory → Token → Act → List Check
later_checks dir token (act.Add parent class name values sd) = add_later dir token parent class.0 name values sd
later_checks dir token (act.Delete target tree) = delete_later dir target tree
later_checks dir token (act.Rename target parent name) = rename_later dir target parent name
later_checks dir token (act.Modify target items sd) = modify_later dir token target items sd

unfoldable pub made : Directory → Token → Act → Directory
made dir token (act.Add parent class name values sd) = add_made dir token parent class.0 name values sd
made dir token (act.Delete target tree) = delete_made dir target
made dir token (act.Rename target parent name) = rename_made dir target parent name
made dir token (act.Modify target items sd) = modify_made dir target items sd

-- ---- an operation

-- a code with the text of the name that is told and the diagnostic text, or the new directory
pub data Effect : Type 0 where
  answered : ℕ → List ℕ → List ℕ → Effect
  changes_to : Directory → Effect

abbrev pub told : Directory → Verdict → Effect
told dir (Refused code) = answered code [] []
told dir (Hidden dn) = answered no_such_object (rdns_text dn.rdns) []
told dir (Missing need) = answered insufficient_access_rights [] (need_text dir need)
told dir (Granted act) = changes_to dir

abbrev pub by_later : Directory → Token → Act → Option Refusal → Effect
by_later dir token act None = changes_to (made dir token act)
by_later dir token act (Some refusal) = told dir (refused refusal)

abbrev pub by_verdict : Directory → Token → Verdict → Effect
by_verdict dir token (Granted act) = by_later dir token act (first_failing (later_checks dir token act))
by_verdict dir token verdict = told dir verdict

unfoldable pub effect : Directory → Token → OpValue → Settings → Effect
effect dir token op settings = by_verdict dir token (verdict_of dir token op settings)
