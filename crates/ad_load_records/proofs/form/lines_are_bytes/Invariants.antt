use Rattle.std.proofs.Common.{map, drop}
use Rattle.std.specs.List.{AllByRecursion}
use Rattle.ad_load_records.specs.Seen.{held_field}
use Rattle.ad_load_records.specs.Good.{HasBytes}
use Rattle.ad_load_records.proofs.form.lines_are_bytes.Given as goal

-- if the others are, all are
abbrev pub invariant-loop-line : goal.invariant-loop-line
invariant-loop-line l = AllByRecursion HasBytes (map held_field (drop l.line-index l.lines)) → AllByRecursion HasBytes
    (map held_field l.lines)
