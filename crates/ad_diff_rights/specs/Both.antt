-- Principals that stand in two directories, by their name.
use Rattle.std.specs.Prelude.{Bool, ◌&&◌, List, filter}
use Rattle.ad_dir_model.specs.Directory.{Directory}
use Rattle.ad_principals.specs.Groups.{is_principal}
use Rattle.ad_both.specs.declared.both.Both.{Both}
use Rattle.ad_both.specs.Both.{objects_of_both}

-- a principal in each
abbrev pub are_principals : Directory → Directory → Both → Bool
are_principals before after o = is_principal before o.before && is_principal after o.after

abbrev pub principals_of_both : Directory → Directory → List Both
principals_of_both before after = filter (are_principals before after) (objects_of_both before after)
