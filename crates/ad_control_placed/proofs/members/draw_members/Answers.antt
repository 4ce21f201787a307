use Rattle.std.proofs.lemmas.Result.{on_ok_weaker}
use Rattle.ad_control_graph.proofs.SetLaws.{keeps_same}
use Rattle.ad_control_placed.proofs.Groups.{with_identifier, without_identifier}
use Rattle.ad_control_placed.proofs.members.draw_members.Goals as goal

pub returns-in-Some-clause-adds : goal.returns-in-Some-clause-adds
returns-in-Some-clause-adds c =
    let ground = c.args.ground.now in
    on_ok_weaker c.draw_holders.result
    (with_identifier c.args.dir.now c.args.number c.in-Some.sid.now ground.parties.tokens.all.items ground.at.items
    c.args.graph.now c.draw_holders.new.graph c.args.kind c.args.to c.in-Some.ensures) c.draw_holders.ensures.adds

pub returns-in-None-clause-sets : goal.returns-in-None-clause-sets
returns-in-None-clause-sets c = keeps_same c.args.graph.now

pub returns-in-None-clause-adds : goal.returns-in-None-clause-adds
returns-in-None-clause-adds c =
    let ground = c.args.ground.now in
    without_identifier c.args.dir.now c.args.number ground.parties.tokens.all.items ground.at.items c.args.graph.now
    c.args.kind c.args.to c.in-None.ensures
