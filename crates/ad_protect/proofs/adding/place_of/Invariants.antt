use Rattle.std.proofs.Common.{◌≡◌, ◌+◌, drop}
use Rattle.ad_protect.proofs.Values.{place_of}
use Rattle.ad_protect.proofs.adding.place_of.Given as goal

-- all before are of lesser attributes
abbrev pub invariant-loop-i : goal.invariant-loop-i
invariant-loop-i l = l.i + place_of l.attr.0 (drop l.i l.values) ≡ place_of l.attr.0 l.values
