use Rattle.std.proofs.Common.{◌≡◌, map, drop}
use Rattle.ad_load_records.specs.Seen.{held_field}
use Rattle.ad_load_records.specs.Records.{kind_of}
use Rattle.ad_load_records.proofs.records.kind_of.Given as goal

-- no line so far names one
abbrev pub invariant-loop-line : goal.invariant-loop-line
invariant-loop-line l = kind_of (map held_field (drop l.line-index l.lines)) ≡ kind_of (map held_field l.lines)
