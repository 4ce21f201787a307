use Rattle.std.proofs.Common.{◌≡◌, ◌≤◌, true, ◌++◌, length}
use Rattle.ad_ldif.specs.Lines.{physical, logical, continuation}
use Rattle.ad_ldif.proofs.cursor.Cursor.join.Given as goal

abbrev pub invariant-loop-self : goal.invariant-loop-self
invariant-loop-self l = record {
  lines : logical true l.fn.self.number (physical l.fn.self.rest.now) ≡ logical true l.self.number
      (physical l.self.rest.now);
  text : l.fn.text.items ++ continuation (physical l.fn.self.rest.now) ≡ l.text.items
      ++ continuation (physical l.self.rest.now);
  shorter : length l.self.rest.now ≤ length l.fn.self.rest.now;
}

abbrev pub decreases-loop-self : goal.decreases-loop-self
decreases-loop-self l = length l.self.rest.now
