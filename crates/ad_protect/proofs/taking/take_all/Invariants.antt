use Rattle.std.proofs.Common.{take}
use Rattle.ad_dir_model.specs.Protection.{has}
use Rattle.ad_protect.specs.Spreading.{Takes}
use Rattle.ad_protect.proofs.taking.take_all.Given as goal

-- those so far are taken
abbrev pub invariant-loop-number : goal.invariant-loop-number
invariant-loop-number l = Takes (has (take l.number-index l.numbers)) l.initial.taken.keys l.taken.keys
