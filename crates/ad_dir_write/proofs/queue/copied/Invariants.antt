use Rattle.std.proofs.Common.{◌≡◌, take}
use Rattle.ad_dir_write.proofs.queue.copied.Given as goal

-- the entries so far
abbrev pub invariant-loop-i : goal.invariant-loop-i
invariant-loop-i l = l.entries.items ≡ take l.i l.queue
