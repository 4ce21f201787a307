use Rattle.std.proofs.lemmas.Result.{on_ok_weaker}
use Rattle.std.proofs.Common.{sym}
use Rattle.ad_control_asked.proofs.DrawnLaws.{own_adds, none_adds}
use Rattle.ad_control_asked.proofs.drawn.draw_own.Goals as goal

pub returns-in-Some-clause-adds : goal.returns-in-Some-clause-adds
returns-in-Some-clause-adds c =
    on_ok_weaker c.draw_from.result (λ adds.
    own_adds c.args.graph.now c.draw_from.new.self c.args.kind c.args.to c.args.at.now c.args.own c.in-Some.from
    (sym c.in-Some.ensures) adds) c.draw_from.ensures.adds

pub returns-in-None-clause-adds : goal.returns-in-None-clause-adds
returns-in-None-clause-adds c =
    none_adds c.args.graph.now c.args.kind c.args.to c.args.at.now c.args.own (sym c.in-None.ensures)
