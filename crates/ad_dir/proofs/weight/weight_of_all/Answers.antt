use Rattle.std.proofs.Common.{sym}
use Rattle.ad_dir.proofs.WeighingLaws.{taken_is}
use Rattle.ad_dir.proofs.weight.weight_of_all.Goals as goal

pub returns-in-Some : goal.returns-in-Some
returns-in-Some c = taken_is _ c.in-Some.left (sym c.in-Some.ensures)
