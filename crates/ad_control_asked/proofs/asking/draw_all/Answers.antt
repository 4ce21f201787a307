use Rattle.std.proofs.lemmas.Result.{on_ok_weaker}
use Rattle.std.proofs.Common.{◌≡◌, ◌∙◌, List, Vec, sym, ap, subst}
use Rattle.std.specs.List.{list_all, flat_map}
use Rattle.std.specs.declared.alloc.Global.{Global}
use Rattle.ad_ids.specs.declared.token.Token.{Token}
use Rattle.ad_questions.specs.declared.alternative.Alternative.{Alternative}
use Rattle.ad_questions.specs.Requirements.{requirements_seen, are_met, AreJudged}
use Rattle.ad_control_graph.proofs.ByLaws.{adds_same}
use Rattle.ad_control_asked.specs.Asked.{is_told_yes, needed_by}
use Rattle.ad_control_asked.proofs.WayLaws.{met_needed}
use Rattle.ad_control_asked.proofs.asking.draw_all.Goals as goal

pub draw_needed-requires-clause-needed : goal.draw_needed-requires-clause-needed
draw_needed-requires-clause-needed c =
    subst (λ (kept : List (Vec Alternative Global)). AreJudged c.args.dir.now (requirements_seen kept))
    (sym c.as_slice.ensures.value) c.in_ok-needed.ensures.judged

pub returns-clause-adds : goal.returns-clause-adds
returns-clause-adds c =
    let dir = c.args.dir.now in
    let number = c.args.number in
    let seen : requirements_seen c.as_slice.result.now ≡ flat_map (needed_by dir number) c.args.asks.now
    = ap (λ (kept : List (Vec Alternative Global)). requirements_seen kept) c.as_slice.ensures.value
    ∙ c.in_ok-needed.ensures.asked in
    on_ok_weaker c.draw_needed.result (λ adds.
    adds_same c.args.graph.now c.draw_needed.new.graph c.args.kind c.args.to
    c.args.ground.now.parties.tokens.all.items c.args.ground.now.at.items
    (λ (token : Token). are_met dir token (requirements_seen c.as_slice.result.now))
    (λ (token : Token). list_all (is_told_yes dir token number) c.args.asks.now)
    (λ token. ap (are_met dir token) seen ∙ met_needed dir token number c.args.asks.now) adds)
    c.draw_needed.ensures.adds
