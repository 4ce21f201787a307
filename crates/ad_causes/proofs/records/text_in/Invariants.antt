use Rattle.std.proofs.Common.{◌≡◌, drop}
use Rattle.ad_causes.specs.Steps.{field_text}
use Rattle.ad_causes.proofs.records.text_in.Given as goal

-- none so far has the name
abbrev pub invariant-loop-line : goal.invariant-loop-line
invariant-loop-line l =
    field_text l.name (drop l.line-index l.lines) ≡ field_text l.name l.lines
