-- Delete: its checks after the controls, up to the required rights.
use Rattle.std.specs.Prelude.{ℕ, Bool, true, false, not, ◌==◌, List, [], ◌∷◌}
use Rattle.ad_ids.specs.declared.token.Token.{Token}
use Rattle.ad_acl.specs.Mask.{delete_tree, delete_child, delete_object}
use Rattle.ad_dir_objects.specs.declared.act.Act.{Act}
use Rattle.ad_dir_objects.specs.declared.act.Act.TheVariants as act
use Rattle.ad_dir_model.specs.Objects.{parent_at}
use Rattle.ad_dir_model.specs.Tree.{root}
use Rattle.ad_dir_model.specs.Directory.{Directory}
use Rattle.ad_needs_rules.specs.Needs.{Alternative, needs}
use Rattle.ad_needs_rules.specs.Checks.{Check, or_code, all_met}
use Rattle.ad_needs_rules.specs.Requests.{is_name, number_named, or_hidden, class_at, class_path}
use Rattle.ad_ldap.specs.ResultCodes.{invalid_dn_syntax, unwilling_to_perform}

-- To go alone an object needs SD on itself, or DC on its parent for its class.
abbrev pub to_leave : Directory → ℕ → List Alternative
to_leave dir number =
    needs number delete_object []
    ∷ needs (parent_at dir.objects number) delete_child (class_path dir.schema (class_at dir number))
    ∷ []

-- With all that is below it it needs DT on itself.
abbrev pub delete_needs : Directory → ℕ → Bool → List (List Alternative)
delete_needs dir number true = (needs number delete_tree [] ∷ []) ∷ []
delete_needs dir number false = to_leave dir number ∷ []

unfoldable pub delete_checks : Directory → Token → List ℕ → Bool → List Check
delete_checks dir token dn tree =
    let number = number_named dir token dn in
    or_code (is_name dn) invalid_dn_syntax
    ∷ or_hidden dir token dn
    ∷ or_code (not (number == root)) unwilling_to_perform
    ∷ all_met dir token (delete_needs dir number tree)

abbrev pub delete_act : Directory → Token → List ℕ → Bool → Act
delete_act dir token dn tree = act.Delete (number_named dir token dn) tree
