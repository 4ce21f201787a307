use Rattle.std.proofs.Common.{◌≡◌, ◌++◌}
use Rattle.ad_change_values.specs.Piles.{since_in, alive, IsIndex}
use Rattle.ad_change_values.proofs.pile.add_all.Given as goal

abbrev pub invariant-loop-one : goal.invariant-loop-one
invariant-loop-one l = IsIndex (since_in l.places) l.all
    × (alive (since_in l.places) 0 l.all ≡ alive (since_in l.fn.places) 0 l.fn.all ++ l.yielded)
