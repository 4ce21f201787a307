use Rattle.std.proofs.Common.{◌≡◌, ◌≤◌, ◌-◌, length, take, Some}
use Rattle.ad_dn.specs.Steps.{from_there, start}
use Rattle.ad_dn.proofs.reading.scan.Given as goal

-- the bytes so far are steps
abbrev pub invariant-loop-place : goal.invariant-loop-place
invariant-loop-place l = record {
  within : l.place ≤ length l.text;
  steps : from_there (Some start)
      (take l.place l.text) ≡ Some l.state;
}

abbrev pub decreases-loop-place : goal.decreases-loop-place
decreases-loop-place l = length l.text - l.place
