use Rattle.std.proofs.Common.{◌≡◌, length, drop}
use Rattle.ad_dn.specs.Fold.{AreSameRdns}
use Rattle.ad_dn.proofs.folding.same_rdns.Given as goal

-- if the others are the same, all are
abbrev pub invariant-loop-i : goal.invariant-loop-i
invariant-loop-i l = (length l.a ≡ length l.b) × (AreSameRdns (drop l.i l.a) (drop l.i l.b) → AreSameRdns l.a l.b)
