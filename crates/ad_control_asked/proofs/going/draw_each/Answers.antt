use Rattle.std.proofs.Common.{List, map, sym, subst, arith}
use Rattle.std.specs.List.{list_any}
use Rattle.std.proofs.lemmas.List.{take_all}
use Rattle.ad_ids.specs.declared.token.Token.{Token}
use Rattle.ad_control_graph.specs.Drawing.{Adds, IsBy}
use Rattle.ad_control_graph.proofs.SetLaws.{keeps_same, keeps_both}
use Rattle.ad_control_graph.proofs.ByLaws.{adds_any, adds_any_none}
use Rattle.ad_control_asked.specs.declared.ways.Known.{Known}
use Rattle.ad_control_asked.specs.Asked.{AreQuestions, known_seen, goes_by}
use Rattle.ad_control_asked.proofs.Stays.{ground_stays, steady_stays, end_stays}
use Rattle.ad_control_asked.proofs.going.draw_each.Goals as goal

pub loop-way-init : goal.loop-way-init
loop-way-init c = record {
  over = λ nodes is. is;
  judging = c.requires.judging;
  sets = keeps_same c.args.graph.now;
  adds = adds_any_none c.args.graph.now c.args.kind c.args.to c.args.ground.now.parties.tokens.all.items
      c.args.ground.now.at.items (λ (token : Token). goes_by c.args.dir.now c.args.number token);
}

pub draw_way-requires-clause-questions : goal.draw_way-requires-clause-questions
draw_way-requires-clause-questions c =
    subst (λ (way : Known). AreQuestions c.args.dir.now.schema way.asks.items) (sym c.way-item.is)
    (c.requires.questions c.loop-way.way-index c.way-item.result c.loop-way-test.true)

pub draw_way-requires-clause-ground : goal.draw_way-requires-clause-ground
draw_way-requires-clause-ground c =
    ground_stays c.args.dir.now c.args.ground.now c.args.graph.now c.loop-way.graph c.loop-way.invariant.over
    c.requires.steady c.requires.ground

pub draw_way-requires-clause-steady : goal.draw_way-requires-clause-steady
draw_way-requires-clause-steady c =
    steady_stays c.args.graph.now c.loop-way.graph c.loop-way.invariant.over c.requires.steady

pub draw_way-requires-clause-to : goal.draw_way-requires-clause-to
draw_way-requires-clause-to c =
    end_stays c.args.graph.now c.loop-way.graph c.args.to c.loop-way.invariant.over c.requires.steady c.requires.to

pub loop-way-preserved : goal.loop-way-preserved
loop-way-preserved c =
    let l = c.loop-way in
    let old = c.args.graph.now in
    let new = c.draw_way.new.graph in
    let tokens = c.args.ground.now.parties.tokens.all.items in
    let at = c.args.ground.now.at.items in
    let ways = c.args.ways.now in
    let way = c.way-item.result in
    record {
      over = λ nodes is. c.in_ok-draw_way.ensures.over nodes (l.invariant.over nodes is);
      judging = c.in_ok-draw_way.ensures.judging;
      sets = keeps_both old l.graph new l.invariant.sets c.in_ok-draw_way.ensures.sets;
      adds = adds_any old l.graph new c.args.kind c.args.to tokens at
          (λ (token : Token). goes_by c.args.dir.now c.args.number token) known_seen ways l.way-index way
          c.loop-way-test.true l.invariant.adds
          (subst (λ (one : Known). Adds l.graph new c.args.kind c.args.to (IsBy tokens at
          (λ (token : Token). goes_by c.args.dir.now c.args.number token (known_seen one)))) c.way-item.is
          c.in_ok-draw_way.ensures.adds);
    }

pub returns-clause-adds : goal.returns-clause-adds
returns-clause-adds c =
    let l = c.loop-way in
    subst (λ (ways : List Known). Adds c.args.graph.now l.graph c.args.kind c.args.to
    (IsBy c.args.ground.now.parties.tokens.all.items c.args.ground.now.at.items
    (λ (token : Token). list_any (goes_by c.args.dir.now c.args.number token) (map known_seen ways))))
    (take_all l.way-index c.args.ways.now (omega (arith, c.loop-way-test.false))) l.invariant.adds
