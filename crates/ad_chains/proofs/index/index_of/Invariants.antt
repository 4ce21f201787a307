use Rattle.std.proofs.Common.{◌≡◌, length}
use Rattle.ad_chains.specs.Work.{IsIndexSoFar}
use Rattle.ad_chains.proofs.index.index_of.Given as goal

-- the edges so far
abbrev pub invariant-loop-place : goal.invariant-loop-place
invariant-loop-place l = record {
  long : length l.index.items ≡ l.count;
  index : IsIndexSoFar l.edges l.place l.index.items;
}
