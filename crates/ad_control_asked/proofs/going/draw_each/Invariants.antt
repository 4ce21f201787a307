use Rattle.std.proofs.Common.{List, map, take}
use Rattle.std.specs.List.{list_any}
use Rattle.ad_control_graph.specs.declared.node.Node.{Node}
use Rattle.ad_control_graph.specs.Drawing.{IsOver, Adds, KeepsSets, IsBy}
use Rattle.ad_control_asked.specs.Asked.{IsJudging, known_seen, goes_by}
use Rattle.ad_control_asked.proofs.going.draw_each.Given as goal

-- what those so far add
abbrev pub invariant-loop-way : goal.invariant-loop-way
invariant-loop-way l = record {
  over : (nodes : List Node) → IsOver nodes l.fn.graph → IsOver nodes l.graph;
  judging : IsJudging l.dir l.ground l.graph l.judging;
  sets : KeepsSets l.fn.graph l.graph;
  adds : Adds l.fn.graph l.graph l.kind l.to (IsBy l.ground.parties.tokens.all.items l.ground.at.items
      (λ token. list_any (goes_by l.dir l.number token) (map known_seen (take l.way-index l.ways))));
}
