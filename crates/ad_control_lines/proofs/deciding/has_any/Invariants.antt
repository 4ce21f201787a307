use Rattle.std.proofs.Common.{◌≡◌, drop}
use Rattle.std.specs.List.{list_any}
use Rattle.ad_control_graph.specs.Texts.{texts_seen}
use Rattle.ad_control.specs.Edges.{has_value}
use Rattle.ad_control_lines.proofs.deciding.has_any.Given as goal

-- it has a value of none so far
abbrev pub invariant-loop-name : goal.invariant-loop-name
invariant-loop-name l =
    list_any (has_value l.dir l.number) (texts_seen (drop l.name-index l.names))
    ≡ list_any (has_value l.dir l.number) (texts_seen l.names)
