use Rattle.std.proofs.Common.{◌≡◌, take, drop}
use Rattle.ad_schema.specs.Faults.{bad_behind, bad_value}
use Rattle.ad_schema.proofs.record.bad_value.Given as goal

abbrev pub invariant-loop-i : goal.invariant-loop-i
invariant-loop-i l = bad_value l.kind l.lines ≡ bad_behind l.kind (take l.i l.lines) (drop l.i l.lines)
