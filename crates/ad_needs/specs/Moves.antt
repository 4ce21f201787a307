-- Rename and move, by what the names in them represent.
use Rattle.std.specs.Prelude.{ℕ, Bool, true, not, ◌==◌, Option, Some, None, is_some, unwrap_or, List, ◌∷◌}
use Rattle.std.specs.Option.{option_map_or}
use Rattle.ad_ids.specs.declared.token.Token.{Token}
use Rattle.ad_dn.specs.declared.rdn.Rdn.{Rdn}
use Rattle.ad_dir_objects.specs.declared.act.Act.TheVariants as act
use Rattle.ad_dir_model.specs.Objects.{parent_at}
use Rattle.ad_dir_model.specs.Tree.{root}
use Rattle.ad_dir_model.specs.Directory.{Directory}
use Rattle.ad_dir_model.specs.Changes.{goes_with}
use Rattle.ad_access_dir.specs.Sight.{visible_of, matched}
use Rattle.ad_needs_rules.specs.declared.outcome.Verdict.{Verdict}
use Rattle.ad_needs_rules.specs.Checks.{Check, hidden, first_failing, or_code, all_met, by_checks}
use Rattle.ad_needs_rules.specs.Requests.{is_name, number_named, or_hidden, class_at}
use Rattle.ad_needs_rules.specs.Renaming.{is_typed, rename_needs}
use Rattle.ad_ldap.specs.ResultCodes.{unwilling_to_perform, naming_violation, invalid_dn_syntax}

-- ---- where the object is to go: the superior, or its own parent

abbrev pub parent_by : Directory → ℕ → Option ℕ → ℕ
parent_by dir number superior = unwrap_or superior (parent_at dir.objects number)

abbrev pub is_outside : Directory → ℕ → Option ℕ → Bool
is_outside dir number superior = option_map_or (λ above. not (goes_with dir number above)) superior true

-- ---- after the names

unfoldable pub rename_rest : Directory → Token → ℕ → Rdn → Option ℕ → List Check
rename_rest dir token number rdn superior =
    or_code (not (number == root)) unwilling_to_perform
    ∷ or_code (is_typed dir.schema (class_at dir number) rdn) naming_violation
    ∷ or_code (is_outside dir number superior) unwilling_to_perform
    ∷ all_met dir token (rename_needs dir number (parent_by dir number superior))

unfoldable pub rename_judged : Directory → Token → ℕ → Rdn → Option ℕ → Verdict
rename_judged dir token number rdn superior =
    by_checks (first_failing (rename_rest dir token number rdn superior))
    (act.Rename number (parent_by dir number superior) rdn.value)

-- ---- with the names that were read

abbrev pub or_unseen : Directory → Token → List Rdn → Check
or_unseen dir token rdns = record {
  holds = is_some (visible_of dir token rdns);
  refusal
      = hidden (matched dir token rdns);
}

abbrev pub number_seen : Directory → Token → List Rdn → ℕ
number_seen dir token rdns = unwrap_or (visible_of dir token rdns) 0

-- without a superior
unfoldable pub in_place_judged : Directory → Token → List Rdn → Rdn → Verdict
in_place_judged dir token rdns rdn =
    let number = number_seen dir token rdns in
    by_checks (first_failing (or_unseen dir token rdns ∷ rename_rest dir token number rdn None))
    (act.Rename number (parent_by dir number None) rdn.value)

-- with one
unfoldable pub moved_judged : Directory → Token → List Rdn → Rdn → List ℕ → Verdict
moved_judged dir token rdns rdn superior =
    let number = number_seen dir token rdns in
    let above = Some (number_named dir token superior) in
    by_checks (first_failing (or_code (is_name superior) invalid_dn_syntax
    ∷ or_unseen dir token rdns ∷ or_hidden dir token superior
    ∷ rename_rest dir token number rdn above))
    (act.Rename number (parent_by dir number above) rdn.value)
