use Rattle.std.proofs.Common.{arith}
use Rattle.ad_control.proofs.laws.a_graph_that_is_drawn_is_whole.Goals as goal

pub returns : goal.returns
returns c =
    let nodes = c.args.graph.now.nodes in
    let sets = c.args.graph.now.sets in
    record {
      members = c.requires.members;
      ends = c.requires.ends;
      fits = omega (arith, nodes.ok.0, nodes.ok.1, nodes.small, sets.ok.0, sets.ok.1, sets.small);
    }
