use Rattle.ad_dir_model.proofs.Naming.{named_found}
use Rattle.ad_dir_model.proofs.whole.an_object_is_found_by_its_name.Goals as goal

pub returns : goal.returns
returns c = named_found
