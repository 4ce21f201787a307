use Rattle.ad_inherit.proofs.Wholes.{explicit_part-whole}
use Rattle.ad_inherit.proofs.laws.the_explicit_part_of_a_whole_is_that_of_its_own.Goals as goal

pub returns : goal.returns
returns c = explicit_part-whole
