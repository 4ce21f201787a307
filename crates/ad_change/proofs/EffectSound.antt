-- Where an operation changes a directory, the new one is sound.
use Rattle.std.proofs.Common.{◌≡◌, ℕ, List, Option, Some, None, refl, subst}
use Rattle.std.specs.List.{AllByRecursion}
use Rattle.ad_ids.specs.declared.token.Token.{Token}
use Rattle.ad_ldap.specs.declared.controls.Settings.{Settings}
use Rattle.ad_ldap.specs.declared.requests.Add.{Add}
use Rattle.ad_ldap.specs.declared.requests.Modify.{Modify}
use Rattle.ad_ldap.specs.declared.requests.Rename.{Rename}
use Rattle.ad_ldap.specs.MessageValue.{ModifyOf, AddOf, DeleteOf, RenameOf}
use Rattle.ad_dir_objects.specs.declared.act.Act.{Act}
use Rattle.ad_dir_model.specs.Directory.{Directory}
use Rattle.ad_dir_model.specs.Soundness.{IsSound}
use Rattle.ad_needs_rules.specs.Checks.{Refusal, code, hidden, missing, first_failing, refused, by_checks}
use Rattle.ad_needs_rules.specs.Adding.{add_checks, add_act}
use Rattle.ad_needs_rules.specs.Deleting.{delete_checks, delete_act}
use Rattle.ad_needs_rules.specs.Renaming.{rename_checks, rename_act}
use Rattle.ad_needs_rules.specs.Modifying.{modify_checks, modify_act}
use Rattle.ad_needs_rules.specs.Verdicts.{verdict_of}
use Rattle.ad_change.specs.Effects.{later_checks, made, changes_to, told, by_later, by_verdict, effect}
use Rattle.ad_change.proofs.Contents.{ReadsBack}
use Rattle.ad_change.proofs.NewSid.{SidsRead, HasDomain}
use Rattle.ad_change.proofs.AddSound.{HasByteValues, added_is_sound}
use Rattle.ad_change.proofs.DeleteSound.{delete_is_sound}
use Rattle.ad_change.proofs.RenameSound.{renamed_is_sound}
use Rattle.ad_change.proofs.ModifySound.{HasBytes, modified_is_sound}

-- ---- an effect taken apart

-- no check fails, and this is what the act makes
pub record Changes (dir after : Directory) (token : Token) (r : Option Refusal) (act : Act) : Type 0 where
  pub before : r ≡ None
  pub behind : first_failing (later_checks dir token act) ≡ None
  pub is : made dir token act ≡ after

told_nothing : (dir after : Directory) (r : Refusal) → told dir (refused r) ≡ changes_to after → ⊥
told_nothing dir after (code n) e = cc
told_nothing dir after (hidden rdns) e = cc
told_nothing dir after (missing need) e = cc

told_first : (dir after : Directory) (token : Token) (r : Refusal) → by_verdict dir token (refused r)
    ≡ changes_to after → ⊥
told_first dir after token (code n) e = cc
told_first dir after token (hidden rdns) e = cc
told_first dir after token (missing need) e = cc

same_after : (a b : Directory) → changes_to a ≡ changes_to b → a ≡ b
same_after a b e = cc

pub effect_is : (dir after : Directory) (token : Token) (r : Option Refusal) (act : Act)
    → by_verdict dir token (by_checks r act) ≡ changes_to after → Changes dir after token r act
effect_is dir after token (Some refusal) act e = absurd (told_first dir after token refusal e)
effect_is dir after token None act e = by_second (first_failing (later_checks dir token act)) refl e
  where
    by_second : (later : Option Refusal) → first_failing (later_checks dir token act) ≡ later
        → by_later dir token act later ≡ changes_to after → Changes dir after token None act
    by_second None is e' = record { before = refl; behind = is; is = same_after (made dir token act) after e' }
    by_second (Some refusal) is e' = absurd (told_nothing dir after refusal e')

-- ---- the operations

pub delete_keeps : (dir after : Directory) (token : Token) (dn : List ℕ) (s : Settings) → IsSound dir
    → effect dir token (DeleteOf dn) s ≡ changes_to after → IsSound after
unfolding effect verdict_of later_checks made
delete_keeps dir after token dn s sound e =
    let parts = effect_is dir after token (first_failing (delete_checks dir token dn s.tree))
    (delete_act dir token dn s.tree) e in
    subst IsSound parts.is (delete_is_sound dir token dn s.tree sound parts.before)

pub rename_keeps : (dir after : Directory) (token : Token) (r : Rename) (s : Settings) → IsSound dir
    → effect dir token (RenameOf r) s ≡ changes_to after → IsSound after
unfolding effect verdict_of later_checks made
rename_keeps dir after token r s sound e =
    let parts = effect_is dir after token (first_failing (rename_checks dir token r)) (rename_act dir token r) e in
    subst IsSound parts.is (renamed_is_sound dir token r sound parts.before parts.behind)

pub modify_keeps : ReadsBack → (dir after : Directory) (token : Token) (m : Modify) (s : Settings) → IsSound dir
    → AllByRecursion HasBytes m.items → effect dir token (ModifyOf m) s ≡ changes_to after → IsSound after
unfolding effect verdict_of later_checks made
modify_keeps back dir after token m s sound bytes e =
    let parts = effect_is dir after token (first_failing (modify_checks dir token m s.sd_flags))
    (modify_act dir token m s.sd_flags) e in
    subst IsSound parts.is (modified_is_sound back dir token m s.sd_flags sound bytes parts.before parts.behind)

pub add_keeps : ReadsBack → SidsRead → (dir after : Directory) (token : Token) (a : Add) (s : Settings)
    → IsSound dir → HasDomain dir → AllByRecursion HasByteValues a.attrs
    → effect dir token (AddOf a) s ≡ changes_to after → IsSound after
unfolding effect verdict_of later_checks made
add_keeps back w dir after token a s sound has bytes e =
    let parts = effect_is dir after token (first_failing (add_checks dir token a s.sd_flags))
    (add_act dir token a s.sd_flags) e in
    subst IsSound parts.is (added_is_sound back w dir token a s.sd_flags sound has bytes parts.before parts.behind)
