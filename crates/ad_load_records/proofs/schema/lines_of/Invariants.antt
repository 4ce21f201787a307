use Rattle.std.proofs.Common.{◌≡◌, map, take}
use Rattle.ad_load_records.specs.Seen.{held_field}
use Rattle.ad_load_records.specs.Schema.{line_of}
use Rattle.ad_load_records.proofs.schema.lines_of.Given as goal

-- the lines so far
abbrev pub invariant-loop-field : goal.invariant-loop-field
invariant-loop-field l = l.lines.items ≡ map line_of (map held_field (take l.field-index l.fields))
