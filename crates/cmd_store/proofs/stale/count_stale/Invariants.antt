use Rattle.cmd_store.proofs.StaleLaws.{IsCounting}
use Rattle.cmd_store.proofs.stale.count_stale.Given as goal

abbrev pub invariant-loop-number : goal.invariant-loop-number
invariant-loop-number l = IsCounting l.dir l.number-items l.n l.number-index
