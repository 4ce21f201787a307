use Rattle.std.proofs.Common.{◌≡◌, ◌≤◌, length}
use Rattle.ad_ldif.specs.Lines.{lines_from}
use Rattle.ad_ldif.proofs.cursor.Cursor.skip_comments.Given as goal

abbrev pub invariant-loop-self : goal.invariant-loop-self
invariant-loop-self l = record {
  lines : lines_from l.fn.self.number l.fn.self.rest.now ≡ lines_from l.self.number l.self.rest.now;
  shorter : length l.self.rest.now ≤ length l.fn.self.rest.now;
}

abbrev pub decreases-loop-self : goal.decreases-loop-self
decreases-loop-self l = length l.self.rest.now
