-- Rename and move: their checks after the required rights, and what they make.
use Rattle.std.specs.Prelude.{ℕ, Bool, ◌==◌, ◌||◌, ◌&&◌, true, List, [], ◌∷◌}
use Rattle.std.specs.Option.{option_map_or}
use Rattle.ad_schema.specs.Classes.{is_under}
use Rattle.ad_dir_model.specs.Object.{Object}
use Rattle.ad_dir_model.specs.Objects.{object_at, parent_at}
use Rattle.ad_dir_model.specs.Directory.{Directory}
use Rattle.ad_dir_model.specs.Names.{child_named}
use Rattle.ad_dir_model.specs.Changes.{renamed_object, renamed}
use Rattle.ad_needs_rules.specs.Checks.{Check, or_code}
use Rattle.ad_needs_rules.specs.Requests.{class_at}
use Rattle.ad_change.specs.Tree.{is_shallow_with, fits_weight_limit}
use Rattle.ad_ldap.specs.ResultCodes.{admin_limit_exceeded, naming_violation, entry_already_exists}

-- the class may stand below that of another parent
abbrev pub may_stand : Directory → ℕ → ℕ → Bool
may_stand dir number parent = parent_at dir.objects number == parent || is_under dir.schema (class_at dir number)
    (class_at dir parent)

-- no other child of the parent has the name
abbrev pub is_free : Directory → ℕ → ℕ → List ℕ → Bool
is_free dir number parent name = option_map_or (λ (other : Object). other.number == number)
    (child_named dir.objects parent name) true

abbrev pub fits_there : Directory → Object → Bool
fits_there dir o = is_shallow_with dir o && fits_weight_limit dir o

unfoldable pub rename_later : Directory → ℕ → ℕ → List ℕ → List Check
rename_later dir number parent name =
    or_code (may_stand dir number parent) naming_violation
    ∷ or_code (is_free dir number parent name) entry_already_exists
    ∷ or_code (fits_there dir (renamed_object (object_at dir.objects number) parent name)) admin_limit_exceeded
    ∷ []

abbrev pub rename_made : Directory → ℕ → ℕ → List ℕ → Directory
rename_made dir number parent name = renamed dir number parent name
