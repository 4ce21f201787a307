use Rattle.std.proofs.Common.{◌≡◌, ℕ, ◌<◌, length}
use Rattle.std.specs.Option.{option_map}
use Rattle.ad_chains.specs.Chain.{link_at}
use Rattle.ad_chains.specs.Ways.{way_at}
use Rattle.ad_chains.specs.Joining.{way_seen}
use Rattle.ad_chains.proofs.ways.ways_of.Given as goal

-- those so far
abbrev pub invariant-loop-x : goal.invariant-loop-x
invariant-loop-x l = record {
  long : length l.ways.items ≡ l.x;
  each : (y : ℕ) → y < l.x → way_at l.ways.items y ≡ option_map (way_seen l.back l.links l.edges) (link_at l.links y);
}
