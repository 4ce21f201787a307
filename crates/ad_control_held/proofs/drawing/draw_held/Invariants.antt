use Rattle.std.proofs.Common.{◌≡◌, map, take}
use Rattle.std.specs.List.{list_any}
use Rattle.ad_control_graph.specs.Texts.{held_seen}
use Rattle.ad_control_graph.specs.Drawing.{IsSteady, Adds, KeepsSets, IsBy}
use Rattle.ad_control.specs.Edges.{holds}
use Rattle.ad_control_held.proofs.drawing.draw_held.Given as goal

-- what was drawn by the values so far
abbrev pub invariant-loop-held : goal.invariant-loop-held
invariant-loop-held l = record {
  nodes : l.graph.nodes.items ≡ l.fn.graph.nodes.items;
  steady : IsSteady l.graph;
  sets : KeepsSets l.fn.graph l.graph;
  adds : Adds l.fn.graph l.graph l.kind l.to (IsBy l.ground.parties.tokens.all.items l.ground.at.items
      (λ token. list_any (holds l.dir token l.number) (map held_seen (take l.held-index l.texts))));
}
