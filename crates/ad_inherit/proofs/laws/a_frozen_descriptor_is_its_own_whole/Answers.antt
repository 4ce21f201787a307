use Rattle.ad_inherit.proofs.Wholes.{whole-frozen}
use Rattle.ad_inherit.proofs.laws.a_frozen_descriptor_is_its_own_whole.Goals as goal

pub returns : goal.returns
returns c = whole-frozen
