use Rattle.std.proofs.Common.{[], take}
use Rattle.ad_dir_model.specs.Protection.{has}
use Rattle.ad_protect.specs.Spreading.{Takes}
use Rattle.ad_control_placed.proofs.places.set_of.Given as goal

-- those so far are taken
abbrev pub invariant-loop-number : goal.invariant-loop-number
invariant-loop-number l = Takes (has (take l.number-index l.numbers)) [] l.set.keys
