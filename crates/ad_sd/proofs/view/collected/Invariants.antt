use Rattle.std.proofs.Common.{◌≡◌, ◌++◌}
use Rattle.ad_sd.specs.View.{entries_left}
use Rattle.ad_sd.proofs.view.collected.Given as goal

-- the entries so far and those that are left are the whole
abbrev pub invariant-loop-ace : goal.invariant-loop-ace
invariant-loop-ace l = l.aces ++ entries_left l.ace-iterator ≡ entries_left l.fn.entries
