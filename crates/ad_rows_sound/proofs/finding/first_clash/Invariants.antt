use Rattle.std.proofs.Common.{◌≡◌}
use Rattle.ad_rows_sound.specs.Least.{IsLeast}
use Rattle.ad_rows_sound.specs.Parts.{IsLast}
use Rattle.ad_rows_sound.proofs.finding.first_clash.Given as goal

-- the least place whose key stands after it among those so far
abbrev pub invariant-loop-key : goal.invariant-loop-key
invariant-loop-key l = (l.names ≡ l.yielded) × IsLeast (IsLast l.yielded) l.clash
