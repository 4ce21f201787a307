use Rattle.std.proofs.Common.{take}
use Rattle.ad_change_values.specs.Piles.{since_in}
use Rattle.ad_change_values.proofs.PileLaws.{IsBuilt}
use Rattle.ad_change_values.proofs.places.places_of.Given as goal

abbrev pub invariant-loop-one : goal.invariant-loop-one
invariant-loop-one l = IsBuilt (since_in l.places) (take l.one-index l.all)
