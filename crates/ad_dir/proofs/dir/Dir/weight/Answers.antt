use Rattle.std.proofs.Common.{ap}
use Rattle.ad_dir_model.specs.Weight.{weight}
use Rattle.ad_dir.proofs.WeighingLaws.{if_known}
use Rattle.ad_dir.proofs.dir.Dir.weight.Goals as goal

pub returns : goal.returns
unfolding weight
returns c = if_known c.self.inside.weight _ _ (ap weight c.self.view_is) c.self.invariant.weighs
