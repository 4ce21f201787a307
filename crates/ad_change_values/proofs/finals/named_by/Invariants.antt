use Rattle.std.proofs.Common.{take}
use Rattle.ad_change_values.specs.Judging.{AreNamed}
use Rattle.ad_change_values.proofs.finals.named_by.Given as goal

abbrev pub invariant-loop-item : goal.invariant-loop-item
invariant-loop-item l = AreNamed (take l.item-index l.items) l.count l.named.items
