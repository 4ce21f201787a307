use Rattle.std.proofs.Common.{◌≤◌, length}
use Rattle.ad_schema_classes.specs.Rows.{aboves}
use Rattle.ad_schema_classes.specs.Heights.{IsHeight, AreHeights}
use Rattle.ad_schema_classes.proofs.heights.note_heights.Given as goal

abbrev pub invariant-loop-left : goal.invariant-loop-left
invariant-loop-left l = record {
  known : AreHeights (aboves l.links) l.heights;
  height : IsHeight (aboves l.links) l.at l.left;
  low : l.left ≤ length l.links;
}

abbrev pub decreases-loop-left : goal.decreases-loop-left
decreases-loop-left l = l.left
