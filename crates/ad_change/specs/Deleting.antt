-- Delete: its checks after the required rights, and what it makes.
use Rattle.std.specs.Prelude.{ℕ, Bool, is_none, ◌||◌, List, [], ◌∷◌}
use Rattle.ad_dir_model.specs.Objects.{next_child}
use Rattle.ad_dir_model.specs.Directory.{Directory}
use Rattle.ad_dir_model.specs.Changes.{deleted}
use Rattle.ad_needs_rules.specs.Checks.{Check, or_code}
use Rattle.ad_ldap.specs.ResultCodes.{not_allowed_on_non_leaf}

-- what has children goes with them alone
unfoldable pub delete_later : Directory → ℕ → Bool → List Check
delete_later dir number tree = or_code (tree || is_none (next_child dir.objects number 0)) not_allowed_on_non_leaf ∷ []

abbrev pub delete_made : Directory → ℕ → Directory
delete_made dir number = deleted dir number
