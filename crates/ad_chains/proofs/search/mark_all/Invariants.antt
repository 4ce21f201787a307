use Rattle.std.proofs.Common.{◌≡◌, ◌+◌, ◌≤◌, length}
use Rattle.ad_chains.specs.Work.{free_count}
use Rattle.ad_chains.specs.Levels.{IsLevel}
use Rattle.ad_chains.proofs.search.mark_all.Given as goal

-- a level of the search
abbrev pub invariant-levels : goal.invariant-levels
invariant-levels l = record {
  long : length l.links ≡ length l.fn.links;
  level : IsLevel l.edges l.end l.links l.frontier.items l.level;
  within : l.level + free_count l.links + length l.frontier.items ≤ length l.fn.links;
}

abbrev pub decreases-levels : goal.decreases-levels
decreases-levels l = free_count l.links + length l.frontier.items
