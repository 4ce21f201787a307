use Rattle.ad_dir_model.proofs.LeastSet.{protected_is, is_protected}
use Rattle.ad_dir_model.proofs.protection.the_protected_objects_are_the_least_set.Goals as goal

pub returns : goal.returns
returns c = λ dir number rise. (protected_is dir number rise, is_protected dir number rise)
