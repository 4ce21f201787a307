use Rattle.ad_sets.proofs.Joining.{AreJoined}
use Rattle.ad_sets.proofs.sets.joined.Given as goal

-- the places so far
abbrev pub invariant-loop-place : goal.invariant-loop-place
invariant-loop-place l = AreJoined l.both l.set l.others l.place l.found.items
