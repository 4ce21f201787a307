use Rattle.std.proofs.Common.{◌≡◌, take}
use Rattle.site_io.specs.Calls.{said_by}
use Rattle.site_io.proofs.crash.said.Given as goal

abbrev pub invariant-loop-call : goal.invariant-loop-call
invariant-loop-call l = l.out.items ≡ said_by (take l.call-index l.calls)
