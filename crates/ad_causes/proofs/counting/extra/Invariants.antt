use Rattle.std.proofs.Common.{drop}
use Rattle.ad_causes.specs.Extra.{texts}
use Rattle.ad_causes.specs.Counts.{IsFinding}
use Rattle.ad_causes.proofs.counting.extra.Given as goal

-- what was found so far goes on by what is left
abbrev pub invariant-loop-text : goal.invariant-loop-text
invariant-loop-text l = IsFinding (texts l.all) (texts l.others) l.table l.found.items (texts (drop l.text-index l.all))
