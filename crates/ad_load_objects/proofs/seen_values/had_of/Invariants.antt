use Rattle.std.proofs.Common.{map, take}
use Rattle.ad_load_objects.specs.Had.{AreHad}
use Rattle.ad_load_objects.specs.Seen.{given_seen}
use Rattle.ad_load_objects.proofs.seen_values.had_of.Given as goal

-- what is kept of the values so far
abbrev pub invariant-loop-i : goal.invariant-loop-i
invariant-loop-i l = AreHad (map given_seen (take l.i l.items)) l.had
