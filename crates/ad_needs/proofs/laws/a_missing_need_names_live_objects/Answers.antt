use Rattle.ad_needs.proofs.LiveWants.{missing_live}
use Rattle.ad_needs.proofs.laws.a_missing_need_names_live_objects.Goals as goal

pub returns : goal.returns
returns c = missing_live
