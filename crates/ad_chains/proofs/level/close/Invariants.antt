use Rattle.std.proofs.Common.{◌≡◌, ◌+◌, ◌-◌, ◌≤◌, ℕ, length}
use Rattle.ad_chains.specs.Work.{free_count}
use Rattle.ad_chains.specs.Levels.{IsLevel, IsClosedSoFar}
use Rattle.ad_chains.proofs.level.close.Given as goal

-- the edges that lead to the first nodes of the frontier are done
abbrev pub invariant-loop-at : goal.invariant-loop-at
invariant-loop-at l = record {
  long : length l.links ≡ length l.initial.links;
  as_many : free_count l.links + length l.frontier.items ≡ free_count l.initial.links + length l.initial.frontier.items;
  grows : length l.initial.frontier.items ≤ length l.frontier.items;
  within : l.at ≤ length l.frontier.items;
  levels : (end : ℕ) → IsLevel l.edges end l.initial.links l.initial.frontier.items l.level
      → IsLevel l.edges end l.links l.frontier.items l.level × IsClosedSoFar l.edges l.links l.frontier.items l.at;
}

abbrev pub decreases-loop-at : goal.decreases-loop-at
decreases-loop-at l = free_count l.links + (length l.frontier.items - l.at)
