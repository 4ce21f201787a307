use Rattle.std.proofs.Common.{Option, List, sym, subst}
use Rattle.ad_chains.specs.declared.ways.Way.{Way}
use Rattle.ad_control_lines.specs.Steps.{AreSteps}
use Rattle.ad_control_dir.proofs.Telling.{steps_of}
use Rattle.ad_control_dir.proofs.told.text_of.Goals as goal

pub lines-requires-clause-steps : goal.lines-requires-clause-steps
lines-requires-clause-steps c =
    let dir = c.args.dir.now in
    let graph = c.in_ok-graph.graph in
    let ways = c.in_ok-ways.ways.items in
    subst (λ (l : List (Option Way)). AreSteps c.args.back dir graph.nodes.items graph.kinds.items l)
    (sym c.as_slice-2.ensures.value)
    (steps_of c.args.back dir graph.nodes.items graph.kinds.items c.place_of-place.result ways
    (c.in_ok-ways.ensures dir c.in_ok-graph.ensures.graph))
