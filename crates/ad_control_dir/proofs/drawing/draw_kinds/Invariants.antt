use Rattle.std.proofs.Common.{take}
use Rattle.std.specs.List.{All}
use Rattle.ad_control_asked.specs.Asked.{IsJudging}
use Rattle.ad_control_placed.specs.Places.{ArePlaces}
use Rattle.ad_control_dir.specs.Drawn.{IsDrawing, IsDrawn, Grows}
use Rattle.ad_control_dir.proofs.drawing.draw_kinds.Given as goal

-- those of the kinds so far
abbrev pub invariant-loop-kind : goal.invariant-loop-kind
invariant-loop-kind l = record {
  drawing : IsDrawing l.dir l.ground l.graph;
  judging : IsJudging l.dir l.ground l.graph l.judging;
  places : ArePlaces l.dir l.graph.nodes.items l.graph l.places;
  grows : Grows l.dir l.initial.graph l.graph;
  drawn : All (λ kind. All (IsDrawn l.dir l.graph kind) l.numbers) (take l.kind-index l.kinds);
}
