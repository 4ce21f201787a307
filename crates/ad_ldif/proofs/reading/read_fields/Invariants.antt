use Rattle.std.proofs.Common.{◌≡◌, true, map, length}
use Rattle.ad_ldif.specs.Lines.{lines_from, lines_before_empty, blocks}
use Rattle.ad_ldif.specs.Records.{field_of, fields_behind}
use Rattle.ad_ldif.proofs.reading.read_fields.Given as goal

abbrev pub invariant-loop-line : goal.invariant-loop-line
invariant-loop-line l = record {
  fields : fields_behind (map field_of l.fn.fields.items)
      (lines_before_empty (lines_from l.fn.at.number l.fn.at.rest.now)) ≡ fields_behind (map field_of l.fields.items)
      (lines_before_empty (lines_from l.at.number l.at.rest.now));
  others : blocks true (lines_from l.fn.at.number l.fn.at.rest.now)
      ≡ blocks true (lines_from l.at.number l.at.rest.now);
}

abbrev pub decreases-loop-line : goal.decreases-loop-line
decreases-loop-line l = length l.at.rest.now
