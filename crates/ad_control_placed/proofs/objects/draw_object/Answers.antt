use Rattle.std.proofs.lemmas.Result.{on_ok_weaker}
use Rattle.ad_control_graph.proofs.SetLaws.{keeps_same}
use Rattle.ad_control_placed.proofs.Found.{within, from_object, from_nowhere}
use Rattle.ad_control_placed.proofs.objects.draw_object.Goals as goal

pub draw_from-requires-clause-from : goal.draw_from-requires-clause-from
draw_from-requires-clause-from c =
    within c.args.dir.now c.args.graph.now.nodes.items c.args.ground.now c.args.number c.in-Some.from c.requires.ground
    c.in-Some.ensures

pub returns-in-Some-clause-adds : goal.returns-in-Some-clause-adds
returns-in-Some-clause-adds c =
    on_ok_weaker c.draw_from.result
    (from_object c.args.dir.now c.args.graph.now.nodes.items c.args.ground.now c.args.number c.in-Some.from
    c.args.graph.now c.draw_from.new.self c.args.kind c.args.to c.requires.ground c.in-Some.ensures)
    c.draw_from.ensures.adds

pub returns-in-None-clause-sets : goal.returns-in-None-clause-sets
returns-in-None-clause-sets c = keeps_same c.args.graph.now

pub returns-in-None-clause-adds : goal.returns-in-None-clause-adds
returns-in-None-clause-adds c =
    from_nowhere c.args.dir.now c.args.graph.now.nodes.items c.args.ground.now c.args.number c.args.graph.now c.args.kind
    c.args.to c.requires.ground c.in-None.ensures
