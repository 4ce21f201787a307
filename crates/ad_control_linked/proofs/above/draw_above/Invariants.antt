use Rattle.std.proofs.Common.{◌≡◌, Some, take}
use Rattle.std.specs.List.{list_any}
use Rattle.ad_control_graph.specs.Drawing.{IsSteady, Adds, KeepsSets, IsBy}
use Rattle.ad_control.specs.Edges.{asks_there}
use Rattle.ad_control_asked.specs.Asked.{IsJudging}
use Rattle.ad_control_linked.proofs.above.draw_above.Given as goal

-- what was drawn by the containers so far
abbrev pub invariant-loop-container : goal.invariant-loop-container
invariant-loop-container l = record {
  nodes : l.graph.nodes.items ≡ l.fn.graph.nodes.items;
  steady : IsSteady l.graph;
  sets : KeepsSets l.fn.graph l.graph;
  judging : IsJudging l.dir l.ground l.graph l.judging;
  adds : Adds l.fn.graph l.graph l.kind l.to (IsBy l.ground.parties.tokens.all.items l.ground.at.items
      (λ token. list_any (asks_there l.dir (Some token) l.text) (take l.container-index l.all)));
}
