use Rattle.std.proofs.Common.{◌≡◌, ◌≤◌, ◌+◌, length, drop}
use Rattle.ad_dn.specs.Text.{rdns_text}
use Rattle.ad_entries.specs.Seen.{view}
use Rattle.ad_search.specs.Scope.{nearest}
use Rattle.ad_search.proofs.finding.levels_to_seen.Given as goal

-- the nearest so far is that of the names from here up, and each of these is as long as the root's
abbrev pub invariant-each : goal.invariant-each
invariant-each l =
    (1 ≤ l.levels) × (l.levels + length l.dir.meta.suffix ≤ length l.dn.rdns) × (l.nearest ≤ length l.dn.rdns)
    × (rdns_text (drop l.nearest l.dn.rdns) ≡ nearest (view l.dir l.token) (drop l.levels l.dn.rdns))

abbrev pub decreases-each : goal.decreases-each
decreases-each l = l.levels
