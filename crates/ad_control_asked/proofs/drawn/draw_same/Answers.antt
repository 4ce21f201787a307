use Rattle.std.proofs.lemmas.Result.{on_ok_weaker}
use Rattle.ad_sets.specs.Sets.{sets_of, set_at}
use Rattle.ad_control_graph.proofs.SetLaws.{keeps_both}
use Rattle.ad_control_graph.proofs.AddLaws.{after_sets, drawn_from}
use Rattle.ad_control_asked.specs.Drawn.{IsNodeOf}
use Rattle.ad_control_asked.proofs.DrawnLaws.{can_on, drawn_stays}
use Rattle.ad_control_asked.proofs.drawn.draw_same.Goals as goal

pub draw_set-requires-clause-steady : goal.draw_set-requires-clause-steady
draw_set-requires-clause-steady c =
    (can_on c.args.graph.now c.set_of.new.graph c.args.at.now c.args.to c.in_ok-from.ensures.over c.requires.can).steady

pub draw_set-requires-clause-to : goal.draw_set-requires-clause-to
draw_set-requires-clause-to c =
    (can_on c.args.graph.now c.set_of.new.graph c.args.at.now c.args.to c.in_ok-from.ensures.over c.requires.can).end

pub returns-clause-sets : goal.returns-clause-sets
returns-clause-sets c =
    on_ok_weaker c.draw_set.result (λ keeps.
    keeps_both c.args.graph.now c.set_of.new.graph c.draw_set.new.graph c.in_ok-from.ensures.readies.keeps keeps)
    c.draw_set.ensures.sets

pub returns-clause-drawn : goal.returns-clause-drawn
returns-clause-drawn c =
    on_ok_weaker c.draw_set.result (λ keeps.
    drawn_stays (sets_of c.args.sets.now) c.args.at.now c.set_of.new.graph c.draw_set.new.graph c.set_of.new.drawn keeps
    c.in_ok-from.ensures.drawn) c.draw_set.ensures.sets

pub returns-clause-adds : goal.returns-clause-adds
returns-clause-adds c =
    let members = set_at (sets_of c.args.sets.now) c.args.place in
    let between = c.set_of.new.graph in
    let new = c.draw_set.new.graph in
    on_ok_weaker c.draw_set.result (λ adds.
    after_sets c.args.graph.now between new c.args.kind c.args.to (IsNodeOf members c.args.at.now) c.requires.can.steady
    c.in_ok-from.ensures.readies
    (drawn_from between new c.args.kind c.in_ok-from.from c.args.to (IsNodeOf members c.args.at.now)
    c.in_ok-from.ensures.found adds)) c.draw_set.ensures.adds
