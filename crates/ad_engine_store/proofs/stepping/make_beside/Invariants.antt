use Rattle.ad_engine_store.specs.Stepping.{MakesBeside}
use Rattle.ad_engine_store.proofs.stepping.make_beside.Given as goal

abbrev pub invariant-loop-done : goal.invariant-loop-done
invariant-loop-done l = MakesBeside l.done l.fn.queue l.queue l.fn.dir l.dir l.fn.batch l.batch
