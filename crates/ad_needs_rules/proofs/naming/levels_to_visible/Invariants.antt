use Rattle.std.proofs.Common.{◌≡◌, ◌≤◌, ◌+◌, length, drop}
use Rattle.ad_needs_rules.proofs.SightLaws.{nearest}
use Rattle.ad_needs_rules.proofs.naming.levels_to_visible.Given as goal

-- the nearest so far is that of the names from here up, and each of the others is as long as the root's
abbrev pub invariant-each : goal.invariant-each
invariant-each l =
    (1 ≤ l.levels) × (l.levels + length l.dir.meta.suffix ≤ length l.dn.rdns) × (l.nearest ≤ length l.dn.rdns)
    × (drop l.nearest l.dn.rdns ≡ nearest l.dir l.token (drop l.levels l.dn.rdns))

abbrev pub decreases-each : goal.decreases-each
decreases-each l = l.levels
