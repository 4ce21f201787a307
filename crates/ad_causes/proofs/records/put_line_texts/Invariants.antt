use Rattle.std.proofs.Common.{◌≡◌, ◌++◌, take}
use Rattle.std.specs.List.{flat_map}
use Rattle.ad_causes.specs.Schema.{line_text}
use Rattle.ad_causes.proofs.records.put_line_texts.Given as goal

-- the texts so far
abbrev pub invariant-loop-line : goal.invariant-loop-line
invariant-loop-line l =
    l.into.items ≡ l.fn.into.items ++ flat_map (line_text l.kind) (take l.line-index l.lines)
