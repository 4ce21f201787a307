use Rattle.ad_sets.proofs.Changing.{row_tells}
use Rattle.ad_sets.proofs.told.a_row_tells_the_whole.Goals as goal

pub returns : goal.returns
returns c = λ object member own base whole. row_tells object member own base whole
