-- What stands in both directories is live in both.
use Rattle.std.specs.Prelude.{All}
use Rattle.std.proofs.lemmas.List.Elements.{All-filter}
use Rattle.ad_dir_model.specs.Objects.{Rise}
use Rattle.ad_dir_model.specs.Directory.{Directory}
use Rattle.ad_both.specs.Both.{objects_of_both, IsLiveBoth}
use Rattle.ad_both.proofs.Live.{all_live}
use Rattle.ad_diff_rights.specs.Both.{are_principals, principals_of_both}

pub principals_live : (before after : Directory) → Rise after.objects
    → All (IsLiveBoth before after) (principals_of_both before after)
principals_live before after rise = All-filter (are_principals before after) (IsLiveBoth before after)
    (objects_of_both before after) (all_live before after rise)
