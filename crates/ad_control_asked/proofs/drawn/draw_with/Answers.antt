use Rattle.std.proofs.lemmas.Result.{on_ok_weaker}
use Rattle.ad_sets.specs.Sets.{sets_of, set_at}
use Rattle.ad_control_graph.proofs.SetLaws.{keeps_both}
use Rattle.ad_control_asked.proofs.DrawnLaws.{can_on, drawn_stays, adds_with}
use Rattle.ad_control_asked.proofs.drawn.draw_with.Goals as goal

pub draw_own-requires : goal.draw_own-requires
draw_own-requires c = record {
  can = can_on c.args.graph.now c.draw_same.new.graph c.args.at.now c.args.to c.in_ok-draw_same.ensures.over
      c.requires.can;
}

pub returns-clause-sets : goal.returns-clause-sets
returns-clause-sets c =
    on_ok_weaker c.draw_own.result (λ keeps.
    keeps_both c.args.graph.now c.draw_same.new.graph c.draw_own.new.graph c.in_ok-draw_same.ensures.sets keeps)
    c.draw_own.ensures.sets

pub returns-clause-drawn : goal.returns-clause-drawn
returns-clause-drawn c =
    on_ok_weaker c.draw_own.result (λ keeps.
    drawn_stays (sets_of c.args.sets.now) c.args.at.now c.draw_same.new.graph c.draw_own.new.graph c.draw_same.new.drawn
    keeps c.in_ok-draw_same.ensures.drawn) c.draw_own.ensures.sets

pub returns-clause-adds : goal.returns-clause-adds
returns-clause-adds c =
    on_ok_weaker c.draw_own.result (λ adds.
    adds_with c.args.graph.now c.draw_same.new.graph c.draw_own.new.graph c.args.kind c.args.to
    (set_at (sets_of c.args.sets.now) c.args.place) c.args.own c.args.at.now c.in_ok-draw_same.ensures.adds adds)
    c.draw_own.ensures.adds
