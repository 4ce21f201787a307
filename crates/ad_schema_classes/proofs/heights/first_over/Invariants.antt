use Rattle.std.proofs.Common.{◌≡◌, ◌-◌, length}
use Rattle.ad_schema_classes.specs.Chains.{endless_from, first_endless}
use Rattle.ad_schema_classes.specs.Rows.{aboves}
use Rattle.ad_schema_classes.specs.Heights.{AreHeights}
use Rattle.ad_schema_classes.proofs.heights.first_over.Given as goal

abbrev pub invariant-loop-i : goal.invariant-loop-i
invariant-loop-i l = record {
  known : AreHeights (aboves l.links) l.heights;
  so_far : endless_from (aboves l.links) l.i (length l.links - l.i) ≡ first_endless (aboves l.links);
}
