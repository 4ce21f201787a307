-- What an operation that changes a directory tries. Its requirements stand once, as its verdict has them.
use Rattle.std.specs.Prelude.{◌≡◌, Bool, true, false, if◌then◌else◌, List, [], ◌++◌, length, map, take}
use Rattle.std.specs.List.{AllByRecursion}
use Rattle.ad_ids.specs.declared.token.Token.{Token}
use Rattle.ad_ldap.specs.declared.controls.Settings.{Settings}
use Rattle.ad_ldap.specs.MessageValue.{OpValue, ModifyOf, AddOf, DeleteOf, RenameOf}
use Rattle.ad_dir_model.specs.Directory.{Directory}
use Rattle.ad_types.specs.Tried.{TriedValue}
use Rattle.ad_needs_rules.specs.declared.need.Want.{Want}
use Rattle.ad_needs_rules.specs.declared.need.Need.{Need}
use Rattle.ad_needs_rules.specs.declared.outcome.Verdict.{Verdict}
use Rattle.ad_needs_rules.specs.declared.outcome.Verdict.TheVariants.{Granted, Refused, Hidden, Missing}
use Rattle.ad_needs_rules.specs.Needs.{Alternative}
use Rattle.ad_types.specs.Path.{last_guid}
use Rattle.ad_needs_rules.specs.Requests.{number_named}
use Rattle.ad_needs_rules.specs.Adding.{parent_number, class_number, new_sd, add_needs}
use Rattle.ad_needs_rules.specs.Deleting.{delete_needs}
use Rattle.ad_needs_rules.specs.Renaming.{new_parent, rename_needs}
use Rattle.ad_needs_rules.specs.Modifying.{modify_needs}
use Rattle.ad_needs_rules.specs.Verdicts.{verdict_of}
use Rattle.ad_needs.specs.Tries.{tries}

-- what the operation requires, in order
unfoldable pub requirements : Directory → Token → OpValue → Settings → List (List Alternative)
requirements dir token (AddOf a) s = add_needs dir (parent_number dir token a) (class_number dir a)
    (new_sd a s.sd_flags)
requirements dir token (DeleteOf dn) s = delete_needs dir (number_named dir token dn) s.tree
requirements dir token (RenameOf r) s = rename_needs dir (number_named dir token r.dn) (new_parent dir token r)
requirements dir token (ModifyOf m) s = modify_needs dir token (number_named dir token m.dn) s.sd_flags m.items
requirements dir token _ s = []

-- Each check before the requirements passes: what is said is that the operation is granted, or that a requirement
-- is missing.
abbrev pub reaches : Verdict → Bool
reaches (Granted act) = true
reaches (Missing need) = true
reaches (Refused code) = false
reaches (Hidden name) = false

-- nothing where an earlier check fails
unfoldable pub trace_of : Directory → Token → OpValue → Settings → List TriedValue
trace_of dir token op s = if reaches (verdict_of dir token op s) then tries dir token (requirements dir token op s)
    else []

-- ---- laws

-- as a required right tells it
abbrev pub told_of : TriedValue → Want
told_of tried = record { object = tried.object; right = tried.right; guid = last_guid tried.path }

-- All before the last was granted, and the last wasn't. It is the first alternative of the required right.
pub record TellsLast (need : Need) (tried : List TriedValue) : Type 0 where
  pub before : List TriedValue
  pub last : List TriedValue
  pub are : tried ≡ before ++ last
  pub granted : AllByRecursion (λ t. t.success ≡ true) before
  pub missing : AllByRecursion (λ t. t.success ≡ false) last
  pub told : map told_of last ≡ take 1 need.alternatives

-- Each of the requirements was tried, and was granted.
pub record GrantsAll (requirements : List (List Alternative)) (tried : List TriedValue) : Type 0 where
  pub each : length tried ≡ length requirements
  pub granted : AllByRecursion (λ t. t.success ≡ true) tried
