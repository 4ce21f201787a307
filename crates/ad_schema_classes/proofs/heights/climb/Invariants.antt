use Rattle.std.proofs.Common.{◌-◌, ◌≤◌, length}
use Rattle.ad_schema_classes.specs.Rows.{aboves}
use Rattle.ad_schema_classes.proofs.HeightLemmas.{IsUp}
use Rattle.ad_schema_classes.proofs.heights.climb.Given as goal

abbrev pub invariant-loop-steps : goal.invariant-loop-steps
invariant-loop-steps l = record {
  low : l.steps ≤ length l.links;
  so_far : IsUp (aboves l.links) l.class l.steps l.at;
}

abbrev pub decreases-loop-steps : goal.decreases-loop-steps
decreases-loop-steps l = length l.links - l.steps
