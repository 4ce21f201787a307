use Rattle.std.proofs.Common.{◌+◌, ◌-◌, length}
use Rattle.ad_schema_classes.specs.Rows.{nexts}
use Rattle.ad_schema_classes.specs.Work.{free_count, IsSetSoFar}
use Rattle.ad_schema_classes.proofs.sets.fill_set.Given as goal

abbrev pub invariant-loop-n : goal.invariant-loop-n
invariant-loop-n l = IsSetSoFar (nexts l.links) l.class l.set l.order.items l.n

abbrev pub decreases-loop-n : goal.decreases-loop-n
decreases-loop-n l = free_count l.set + (length l.order.items - l.n)
