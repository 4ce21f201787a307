use Rattle.std.proofs.Common.{take}
use Rattle.ad_schema_classes.specs.Work.{Noted}
use Rattle.ad_schema_classes.proofs.sets.note_all.Given as goal

abbrev pub invariant-loop-k : goal.invariant-loop-k
invariant-loop-k l = Noted l.initial.row l.initial.order.items (take l.k-index l.list) l.row l.order.items
