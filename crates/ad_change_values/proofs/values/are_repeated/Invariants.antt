use Rattle.std.proofs.Common.{◌≡◌, drop}
use Rattle.ad_change_values.specs.Values.{are_repeated}
use Rattle.ad_change_values.proofs.values.are_repeated.Given as goal

-- none so far has the key of a later one
abbrev pub invariant-loop-i : goal.invariant-loop-i
invariant-loop-i l = are_repeated (drop l.i l.read) ≡ are_repeated l.read
