use Rattle.std.proofs.lemmas.Result.{on_ok_weaker}
use Rattle.ad_sets.specs.Sets.{sets_of, set_at}
use Rattle.ad_control_asked.proofs.DrawnLaws.{drawn_stays, adds_same, adds_alone}
use Rattle.ad_control_asked.proofs.drawn.draw_told.Goals as goal

pub returns-in-None-clause-adds : goal.returns-in-None-clause-adds
returns-in-None-clause-adds c =
    on_ok_weaker c.draw_same.result (λ adds.
    adds_alone c.args.graph.now c.draw_same.new.graph c.args.kind c.args.to
    (set_at (sets_of c.args.sets.now) c.args.told.0) c.args.told.1 c.args.own c.args.at.now c.in-None.is adds)
    c.draw_same.ensures.adds

pub returns-in-Same-clause-adds : goal.returns-in-Same-clause-adds
returns-in-Same-clause-adds c =
    let drawn = c.draw_same-in-Same in
    on_ok_weaker drawn.result (λ adds.
    adds_same c.args.graph.now drawn.new.graph c.args.kind c.args.to (set_at (sets_of c.args.sets.now) c.args.told.0)
    c.args.told.1 c.args.own c.args.at.now c.in-Same.is adds) drawn.ensures.adds

pub returns-in-Without-clause-drawn : goal.returns-in-Without-clause-drawn
returns-in-Without-clause-drawn c =
    on_ok_weaker c.draw_without.result (λ keeps.
    drawn_stays (sets_of c.args.sets.now) c.args.at.now c.args.graph.now c.draw_without.new.graph c.args.drawn.now keeps
    c.requires.drawn) c.draw_without.ensures.sets
