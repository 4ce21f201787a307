use Rattle.std.proofs.Common.{◌≡◌, map, take}
use Rattle.ad_control_graph.specs.Texts.{stand_seen}
use Rattle.ad_control_graph.specs.Drawing.{IsSteady, Adds, KeepsSets}
use Rattle.ad_control_asked.specs.Asked.{IsJudging}
use Rattle.ad_control_placed.specs.Places.{ArePlaces}
use Rattle.ad_control_placed.specs.Standing.{IsStanding}
use Rattle.ad_control_placed.proofs.drawing.draw_placed.Given as goal

-- what was drawn by the places so far
abbrev pub invariant-loop-stand : goal.invariant-loop-stand
invariant-loop-stand l = record {
  nodes : l.graph.nodes.items ≡ l.fn.graph.nodes.items;
  steady : IsSteady l.graph;
  sets : KeepsSets l.fn.graph l.graph;
  judging : IsJudging l.dir l.ground l.graph l.judging;
  places : ArePlaces l.dir l.fn.graph.nodes.items l.graph l.places;
  adds : Adds l.fn.graph l.graph l.kind l.to (IsStanding l.dir l.fn.graph.nodes.items
      (map stand_seen (take l.stand-index l.stands)) l.number);
}
