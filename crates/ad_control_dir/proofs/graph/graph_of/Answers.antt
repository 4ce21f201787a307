use Rattle.std.proofs.Common.{List, sym, subst}
use Rattle.ad_control_graph.specs.declared.node.Node.{Node}
use Rattle.ad_control_nodes.specs.Ground.{IsGround}
use Rattle.ad_control_dir.proofs.Whole.{is_graph}
use Rattle.ad_control_dir.proofs.graph.graph_of.Goals as goal

pub draw_all-requires-clause-drawing : goal.draw_all-requires-clause-drawing
draw_all-requires-clause-drawing c = record {
  steady = c.in_ok-graph.ensures.over.steady;
  ground = subst (λ (l : List Node). IsGround c.args.dir.now l c.in_ok-nodes.ground)
      (sym c.in_ok-graph.ensures.over.nodes) c.in_ok-nodes.ensures.ground;
  sound = λ x place y pass. absurd (c.in_ok-graph.ensures.none x place y pass);
}

pub returns-clause-graph : goal.returns-clause-graph
returns-clause-graph c =
    is_graph c.args.dir.now c.in_ok-nodes.ground c.draw_all.new.graph c.in_ok-draw_all.ensures.drawing
    c.in_ok-draw_all.ensures.drawn
