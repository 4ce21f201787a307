use Rattle.std.proofs.lemmas.Result.{on_ok_weaker}
use Rattle.std.proofs.Common.{◌∙◌, Bool, false, List, set, subst}
use Rattle.ad_control_graph.specs.Drawing.{IsSetOf}
use Rattle.ad_control_graph.proofs.SetLaws.{keeps_both}
use Rattle.ad_control_graph.proofs.AddLaws.{after_sets, drawn_from}
use Rattle.ad_control_asked.specs.Drawn.{IsNodeOf}
use Rattle.ad_control_asked.proofs.DrawnLaws.{can_on, adds_without}
use Rattle.ad_control_asked.proofs.drawn.draw_without.Goals as goal

pub draw_set-requires-clause-steady : goal.draw_set-requires-clause-steady
draw_set-requires-clause-steady c =
    (can_on c.args.graph.now c.put_members.new.self c.args.at.now c.args.to c.in_ok-from.ensures.over
    c.requires.can).steady

pub draw_set-requires-clause-to : goal.draw_set-requires-clause-to
draw_set-requires-clause-to c =
    (can_on c.args.graph.now c.put_members.new.self c.args.at.now c.args.to c.in_ok-from.ensures.over
    c.requires.can).end

pub returns-clause-sets : goal.returns-clause-sets
returns-clause-sets c =
    on_ok_weaker c.draw_set.result (λ keeps.
    keeps_both c.args.graph.now c.put_members.new.self c.draw_set.new.graph c.in_ok-from.ensures.sets keeps)
    c.draw_set.ensures.sets

pub returns-clause-adds : goal.returns-clause-adds
returns-clause-adds c =
    let at = c.args.at.now in
    let rest = set c.args.base.now c.args.own false in
    let between = c.put_members.new.self in
    let new = c.draw_set.new.graph in
    let is_set : IsSetOf between c.in_ok-from.from (IsNodeOf rest at)
    = subst (λ (members : List Bool). IsSetOf between c.in_ok-from.from (IsNodeOf members at))
    (c.as_slice.ensures.value ∙ c.in_ok-rest.ensures) c.in_ok-from.ensures.set in
    on_ok_weaker c.draw_set.result (λ adds.
    adds_without c.args.graph.now new c.args.kind c.args.to c.args.base.now c.args.own at
    (after_sets c.args.graph.now between new c.args.kind c.args.to (IsNodeOf rest at) c.requires.can.steady
    c.in_ok-from.ensures.readies
    (drawn_from between new c.args.kind c.in_ok-from.from c.args.to (IsNodeOf rest at) is_set adds)))
    c.draw_set.ensures.adds
