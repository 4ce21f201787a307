use Rattle.std.proofs.Common.{◌≡◌, drop}
use Rattle.std.specs.List.{list_all}
use Rattle.ad_control_graph.specs.Texts.{texts_seen}
use Rattle.ad_control.specs.Edges.{may_ask}
use Rattle.ad_control_lines.proofs.deciding.may_ask_all.Given as goal

-- it is told yes to each so far
abbrev pub invariant-loop-text : goal.invariant-loop-text
invariant-loop-text l =
    list_all (may_ask l.dir l.token l.number) (texts_seen (drop l.text-index l.texts))
    ≡ list_all (may_ask l.dir l.token l.number) (texts_seen l.texts)
