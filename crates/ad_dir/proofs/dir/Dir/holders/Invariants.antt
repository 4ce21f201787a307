use Rattle.std.proofs.Common.{◌-◌}
use Rattle.ad_dir.proofs.HolderLists.{IsUpTo}
use Rattle.ad_dir.proofs.dir.Dir.holders.Given as goal

-- those up to a number
abbrev pub invariant-each : goal.invariant-each
invariant-each l = IsUpTo l.self.objects l.target l.above l.found.items

abbrev pub decreases-each : goal.decreases-each
decreases-each l = 4294967296 - l.above
