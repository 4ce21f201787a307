use Rattle.std.proofs.Common.{◌-◌, ◌≤◌, length, take}
use Rattle.gate_log.specs.Counts.{Counts}
use Rattle.gate_log.specs.Layout.{AreRecords}
use Rattle.gate_log.proofs.read.records_of.Given as goal

-- the records so far
abbrev pub invariant-loop-bodies : goal.invariant-loop-bodies
invariant-loop-bodies l = record {
  are : AreRecords l.bodies.items (take l.end l.bytes);
  within : l.end ≤ length l.bytes;
  counts : Counts l.first l.behind l.bodies.items;
  small : l.behind ≤ l.end;
}

abbrev pub decreases-loop-bodies : goal.decreases-loop-bodies
decreases-loop-bodies l = length l.bytes - l.end
