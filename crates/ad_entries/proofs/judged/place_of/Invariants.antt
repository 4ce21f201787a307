use Rattle.std.proofs.Common.{◌≤◌, length}
use Rattle.ad_entries.proofs.judged.place_of.Given as goal

abbrev pub invariant-each : goal.invariant-each
invariant-each l = l.place ≤ length l.judged

abbrev pub decreases-each : goal.decreases-each
decreases-each l = l.place
