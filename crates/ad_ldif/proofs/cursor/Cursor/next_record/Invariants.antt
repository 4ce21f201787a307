use Rattle.std.proofs.Common.{◌≡◌, false, length}
use Rattle.ad_ldif.specs.Lines.{lines_from, blocks}
use Rattle.ad_ldif.proofs.cursor.Cursor.next_record.Given as goal

abbrev pub invariant-loop-line : goal.invariant-loop-line
invariant-loop-line l = blocks false (lines_from l.fn.self.number l.fn.self.rest.now)
    ≡ blocks false (lines_from l.self.number l.self.rest.now)

abbrev pub decreases-loop-line : goal.decreases-loop-line
decreases-loop-line l = length l.self.rest.now
