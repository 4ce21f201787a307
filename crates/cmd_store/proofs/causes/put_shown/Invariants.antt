use Rattle.std.proofs.Common.{◌≡◌, ◌++◌, drop}
use Rattle.cmd_store.specs.Causes.{shown_name}
use Rattle.cmd_store.proofs.causes.put_shown.Given as goal

-- what was put, before what the other bytes give
abbrev pub invariant-loop-byte : goal.invariant-loop-byte
invariant-loop-byte l = l.into.items ++ shown_name (drop l.byte-index l.name) ≡ l.fn.into.items ++ shown_name l.name
