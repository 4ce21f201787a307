use Rattle.std.proofs.Common.{◌≡◌, length, drop}
use Rattle.ad_search.specs.Scope.{same_rdns}
use Rattle.ad_search.proofs.naming.same_rdns.Given as goal

-- all are the same where the others are
abbrev pub invariant-each : goal.invariant-each
invariant-each l = (length l.a ≡ length l.b) × (same_rdns (drop l.i l.a) (drop l.i l.b) ≡ same_rdns l.a l.b)
