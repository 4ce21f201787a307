use Rattle.std.proofs.Common.{◌≡◌, ◌++◌, replicate, None}
use Rattle.ad_engine_store.proofs.tokens.pad.Given as goal

abbrev pub invariant-loop-done : goal.invariant-loop-done
invariant-loop-done l = l.items.items ≡ l.fn.items.items ++ replicate l.done None
