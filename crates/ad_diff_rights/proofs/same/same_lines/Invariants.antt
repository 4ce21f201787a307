use Rattle.std.proofs.Common.{◌≡◌, length, take}
use Rattle.ad_diff_rights.proofs.same.same_lines.Given as goal

-- those so far are the same
abbrev pub invariant-each : goal.invariant-each
invariant-each l = (length l.a ≡ length l.b) × (take l.i l.a ≡ take l.i l.b)
