use Rattle.std.proofs.Common.{◌≡◌, true, length}
use Rattle.ad_ldif.specs.Lines.{lines_from, lines_before_empty, blocks}
use Rattle.ad_ldif.specs.Changing.{opened_behind}
use Rattle.ad_ldif.proofs.changing.read_openings.Given as goal

abbrev pub invariant-lines : goal.invariant-lines
invariant-lines l = record {
  opened : opened_behind l.fn.controls l.fn.first (lines_before_empty (lines_from l.fn.at.number l.fn.at.rest.now))
      ≡ opened_behind l.controls l.number (lines_before_empty (lines_from l.at.number l.at.rest.now));
  others : blocks true (lines_from l.fn.at.number l.fn.at.rest.now)
      ≡ blocks true (lines_from l.at.number l.at.rest.now);
}

abbrev pub decreases-lines : goal.decreases-lines
decreases-lines l = length l.at.rest.now
