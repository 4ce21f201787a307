use Rattle.std.proofs.Common.{◌≡◌, true, length}
use Rattle.ad_ldif.specs.Lines.{lines_from, lines_before_empty, blocks}
use Rattle.ad_ldif.specs.Changing.{items_behind}
use Rattle.ad_ldif.proofs.changing.read_items.Given as goal

abbrev pub invariant-each : goal.invariant-each
invariant-each l = record {
  items : items_behind l.fn.items (lines_before_empty (lines_from l.fn.at.number l.fn.at.rest.now))
      ≡ items_behind l.items (lines_before_empty (lines_from l.at.number l.at.rest.now));
  others : blocks true (lines_from l.fn.at.number l.fn.at.rest.now)
      ≡ blocks true (lines_from l.at.number l.at.rest.now);
}

abbrev pub decreases-each : goal.decreases-each
decreases-each l = length l.at.rest.now
