use Rattle.std.proofs.Common.{sym}
use Rattle.ad_dir_model.specs.Object.{no_object}
use Rattle.ad_dir.proofs.WeighingLaws.{taken_is, left_within}
use Rattle.ad_dir.proofs.weight.weight_of.Goals as goal

pub returns-in-Some : goal.returns-in-Some
returns-in-Some c = λ sd. taken_is _ c.in-Some.left (sym (c.in-Some.ensures sd))

pub overflow_sub-result : goal.overflow_sub-result
overflow_sub-result c = left_within _ c.in-Some.left (sym (c.in-Some.ensures no_object.sd))
