use Rattle.std.proofs.lemmas.Result.{on_ok_weaker}
use Rattle.std.proofs.Common.{◌≡◌, ◌∙◌, true, sym, ap}
use Rattle.std.specs.List.{list_all}
use Rattle.ad_ids.specs.declared.token.Token.{Token}
use Rattle.ad_control_graph.proofs.ByLaws.{adds_same}
use Rattle.ad_control_asked.specs.Asked.{is_told_yes, is_one_stored, known_seen, goes_by}
use Rattle.ad_control_asked.proofs.WayLaws.{is_stored_too}
use Rattle.ad_control_asked.proofs.going.draw_way.Goals as goal

pub returns-clause-adds : goal.returns-clause-adds
returns-clause-adds c =
    let dir = c.args.dir.now in
    let number = c.args.number in
    let way = known_seen c.args.way.now in
    let one : is_one_stored dir number c.args.way.now.stored.items ≡ true
    = ap (is_one_stored dir number) (sym c.as_slice.ensures.value) ∙ sym c.if-not-is_one_stored.ensures in
    on_ok_weaker c.draw_all.result (λ adds.
    adds_same c.args.graph.now c.draw_all.new.graph c.args.kind c.args.to c.args.ground.now.parties.tokens.all.items
    c.args.ground.now.at.items (λ (token : Token). list_all (is_told_yes dir token number) c.as_slice-2.result.now)
    (λ (token : Token). goes_by dir number token way)
    (λ token. ap (list_all (is_told_yes dir token number)) c.as_slice-2.ensures.value
    ∙ is_stored_too dir number token way one) adds) c.draw_all.ensures.adds
