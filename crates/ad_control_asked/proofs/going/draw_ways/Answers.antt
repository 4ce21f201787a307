use Rattle.std.proofs.lemmas.Result.{on_ok_weaker}
use Rattle.std.proofs.Common.{map}
use Rattle.std.specs.List.{list_any}
use Rattle.ad_ids.specs.declared.token.Token.{Token}
use Rattle.ad_control_graph.specs.Kinds.{row}
use Rattle.ad_control_graph.proofs.ByLaws.{adds_same}
use Rattle.ad_control.specs.Edges.{goes}
use Rattle.ad_control_asked.specs.Asked.{known_seen, goes_by}
use Rattle.ad_control_asked.proofs.WayLaws.{one_goes}
use Rattle.ad_control_asked.proofs.going.draw_ways.Goals as goal

pub draw_each-requires-clause-questions : goal.draw_each-requires-clause-questions
draw_each-requires-clause-questions c = c.at-known.ensures.questions

pub returns-clause-adds : goal.returns-clause-adds
returns-clause-adds c =
    let dir = c.args.dir.now in
    let kind = c.args.kind in
    let number = c.args.number in
    let known = c.at-known.result.now in
    on_ok_weaker c.draw_each.result (λ adds.
    adds_same c.args.graph.now c.draw_each.new.graph kind c.args.to c.args.ground.now.parties.tokens.all.items
    c.args.ground.now.at.items (λ (token : Token). list_any (goes_by dir number token) (map known_seen known))
    (λ (token : Token). list_any (goes dir token number) (row kind).ways)
    (λ token. one_goes dir token kind number known c.at-known.ensures) adds) c.draw_each.ensures.adds
