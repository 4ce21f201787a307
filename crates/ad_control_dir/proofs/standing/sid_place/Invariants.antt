use Rattle.std.proofs.Common.{◌≡◌, ◌≢◌, ℕ, ◌<◌, Some}
use Rattle.std.specs.Prelude.{slice_get}
use Rattle.ad_control_graph.specs.declared.node.Node.TheVariants.{Identifier}
use Rattle.ad_control_dir.proofs.standing.sid_place.Given as goal

-- it isn't among those so far
abbrev pub invariant-loop-place : goal.invariant-loop-place
invariant-loop-place l = (k : ℕ) → k < l.place → slice_get l.nodes k ≢ Some (Identifier l.sid)
