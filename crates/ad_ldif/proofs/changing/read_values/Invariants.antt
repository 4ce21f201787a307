use Rattle.std.proofs.Common.{◌≡◌, ◌≤◌, true, length, Some}
use Rattle.ad_ldif.specs.Lines.{lines_from, lines_before_empty, blocks}
use Rattle.ad_ldif.specs.Changing.{items_from}
use Rattle.ad_ldif.proofs.changing.read_values.Given as goal

abbrev pub invariant-lines : goal.invariant-lines
invariant-lines l = record {
  values : items_from (Some (record { item = l.fn.item; line = l.fn.first }))
      (lines_before_empty (lines_from l.fn.at.number l.fn.at.rest.now))
      ≡ items_from (Some (record { item = l.item; line = l.number }))
      (lines_before_empty (lines_from l.at.number l.at.rest.now));
  others : blocks true (lines_from l.fn.at.number l.fn.at.rest.now)
      ≡ blocks true (lines_from l.at.number l.at.rest.now);
  shorter : length l.at.rest.now ≤ length l.fn.at.rest.now;
}

abbrev pub decreases-lines : goal.decreases-lines
decreases-lines l = length l.at.rest.now
