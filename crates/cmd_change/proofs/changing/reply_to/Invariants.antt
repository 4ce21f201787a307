use Rattle.std.proofs.Common.{ℕ, ◌+◌, ◌<◌, ◌≤◌, length}
use Rattle.std.specs.List.{AllByRecursion}
use Rattle.ad_ldif.specs.Changes.{untold_changes}
use Rattle.ad_ldif.specs.Ranges.{HasItemOps}
use Rattle.cmd_change.proofs.Frames.{GoesOn}
use Rattle.cmd_change.proofs.changing.reply_to.Given as goal

abbrev pub invariant-records : goal.invariant-records
invariant-records l = record {
  answer : GoesOn l.input l.frames.items l.id (untold_changes l.reader);
  some : 0 < l.id;
  few : l.id + length (untold_changes l.reader).changes ≤ 67108865;
  ops : AllByRecursion HasItemOps (untold_changes l.reader).changes;
}

abbrev pub decreases-records : goal.decreases-records
decreases-records l = length (untold_changes l.reader).changes
