use Rattle.std.proofs.Common.{◌≡◌, length}
use Rattle.ad_change_values.specs.Piles.{since_in, alive}
use Rattle.ad_change_values.proofs.places.alive_of.Given as goal

-- those that are there of the values so far
abbrev pub invariant-loop-one : goal.invariant-loop-one
invariant-loop-one l = (l.left.items ≡ alive (since_in l.places) 0 l.yielded) × (l.place ≡ length l.yielded)
