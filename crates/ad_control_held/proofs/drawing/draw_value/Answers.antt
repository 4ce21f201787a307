use Rattle.std.proofs.Common.{◌∙◌, sym}
use Rattle.std.proofs.lemmas.Result.{on_ok_weaker}
use Rattle.ad_sd.specs.Seen.{seen}
use Rattle.ad_control_graph.specs.Texts.{held_seen}
use Rattle.ad_control_held.proofs.Values.{by_value, by_none}
use Rattle.ad_control_held.proofs.drawing.draw_value.Goals as goal

pub returns-in-Some-clause-adds : goal.returns-in-Some-clause-adds
returns-in-Some-clause-adds c =
    let ground = c.args.ground.now in
    on_ok_weaker c.draw_granted.result
    (by_value c.args.dir.now c.args.graph.now c.draw_granted.new.graph c.args.kind c.args.number c.args.to
    ground.parties.tokens.all.items ground.at.items (held_seen c.args.held) c.in-Some.sd (seen c.view.result)
    (sym c.in-Some.is ∙ c.in_ok-value.ensures) c.view.ensures) c.draw_granted.ensures.adds

pub returns-in-None-clause-adds : goal.returns-in-None-clause-adds
returns-in-None-clause-adds c =
    by_none c.args.dir.now c.args.graph.now c.args.kind c.args.number c.args.to
    c.args.ground.now.parties.tokens.all.items c.args.ground.now.at.items (held_seen c.args.held) (sym c.in-None.is ∙ c.in_ok-value.ensures)
