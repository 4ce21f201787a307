use Rattle.std.proofs.Common.{◌≡◌, drop, map}
use Rattle.ad_control_graph.specs.Texts.{asking_seen}
use Rattle.ad_control_lines.specs.Deciding.{decided}
use Rattle.ad_control_lines.proofs.deciding.decided.Given as goal

-- none so far goes
abbrev pub invariant-loop-way : goal.invariant-loop-way
invariant-loop-way l =
    decided l.dir l.token l.number (map asking_seen (drop l.way-index l.ways))
    ≡ decided l.dir l.token l.number (map asking_seen l.ways)
