use Rattle.std.proofs.Common.{take}
use Rattle.ad_change_values.specs.Piles.{since_in}
use Rattle.ad_change_values.proofs.PileTaking.{IsTakenTo}
use Rattle.ad_change_values.proofs.places.take_all.Given as goal

abbrev pub invariant-loop-one : goal.invariant-loop-one
invariant-loop-one l = IsTakenTo (since_in l.fn.places) (since_in l.places) l.all (take l.one-index l.gone)
