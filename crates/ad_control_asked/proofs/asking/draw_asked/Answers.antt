use Rattle.std.proofs.lemmas.Result.{on_ok_weaker}
use Rattle.std.proofs.Common.{[], ◌∷◌}
use Rattle.std.specs.List.{list_all}
use Rattle.std.proofs.Math.Bool.{and-true}
use Rattle.ad_ids.specs.declared.token.Token.{Token}
use Rattle.ad_control_graph.proofs.ByLaws.{adds_same}
use Rattle.ad_control_asked.specs.Asked.{is_told_yes}
use Rattle.ad_control_asked.proofs.asking.draw_asked.Goals as goal

pub returns-clause-adds : goal.returns-clause-adds
returns-clause-adds c =
    let dir = c.args.dir.now in
    let number = c.args.number in
    let question = c.args.question in
    on_ok_weaker c.draw_all.result (λ adds.
    adds_same c.args.graph.now c.draw_all.new.graph c.args.kind c.args.to c.args.ground.now.parties.tokens.all.items
    c.args.ground.now.at.items (λ (token : Token). list_all (is_told_yes dir token number) (question ∷ []))
    (λ (token : Token). is_told_yes dir token number question)
    (λ token. and-true (is_told_yes dir token number question)) adds) c.draw_all.ensures.adds
