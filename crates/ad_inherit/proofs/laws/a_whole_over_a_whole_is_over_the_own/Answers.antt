use Rattle.ad_inherit.proofs.Wholes.{whole-whole}
use Rattle.ad_inherit.proofs.laws.a_whole_over_a_whole_is_over_the_own.Goals as goal

pub returns : goal.returns
returns c = whole-whole
