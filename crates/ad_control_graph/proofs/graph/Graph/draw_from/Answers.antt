use Rattle.std.proofs.lemmas.Result.{on_ok_weaker}
use Rattle.ad_control_graph.proofs.Sets.{from_one}
use Rattle.ad_control_graph.proofs.graph.Graph.draw_from.Goals as goal

pub returns-clause-adds : goal.returns-clause-adds
returns-clause-adds c =
    on_ok_weaker c.draw.result
    (from_one c.args.self.now c.draw.new.self c.args.kind c.args.from c.args.to c.requires.steady c.requires.from)
    c.draw.ensures.adds
