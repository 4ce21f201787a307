use Rattle.std.proofs.Common.{◌≡◌, length, drop, map}
use Rattle.ad_dir_objects.specs.Seen.{stored_seen}
use Rattle.ad_change.proofs.same.same_stored_all.Given as goal

-- all are the same where those after are
abbrev pub invariant-each : goal.invariant-each
invariant-each l = (length l.a ≡ length l.b)
    × (map stored_seen (drop l.i l.a) ≡ map stored_seen (drop l.i l.b) → map stored_seen l.a ≡ map stored_seen l.b)
