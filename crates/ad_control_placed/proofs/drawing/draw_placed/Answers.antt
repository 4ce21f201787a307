use Rattle.std.proofs.Common.{◌∙◌, ◌<◌, List, length, map, take, refl, sym, ap, subst}
use Rattle.std.proofs.lemmas.List.{take_all}
use Rattle.ad_control_graph.specs.declared.node.Node.{Node}
use Rattle.ad_control_graph.specs.Texts.{stand_seen}
use Rattle.ad_control_graph.proofs.SetLaws.{keeps_same, keeps_both}
use Rattle.ad_control_nodes.specs.Ground.{IsGround}
use Rattle.ad_control_placed.specs.Places.{ArePlaces}
use Rattle.ad_control_placed.proofs.Stands.{stands_none, stands_more, by_places}
use Rattle.ad_control_placed.proofs.drawing.draw_placed.Goals as goal

pub draw_stand-requires-clause-steady : goal.draw_stand-requires-clause-steady
draw_stand-requires-clause-steady c = c.loop-stand.invariant.steady

pub draw_stand-requires-clause-ground : goal.draw_stand-requires-clause-ground
draw_stand-requires-clause-ground c =
    subst (λ (l : List Node). IsGround c.args.dir.now l c.args.ground.now) (sym c.loop-stand.invariant.nodes)
    c.requires.ground

pub draw_stand-requires-clause-judging : goal.draw_stand-requires-clause-judging
draw_stand-requires-clause-judging c = c.loop-stand.invariant.judging

pub draw_stand-requires-clause-places : goal.draw_stand-requires-clause-places
draw_stand-requires-clause-places c =
    subst (λ (l : List Node). ArePlaces c.args.dir.now l c.loop-stand.graph c.loop-stand.places)
    (sym c.loop-stand.invariant.nodes) c.loop-stand.invariant.places

pub draw_stand-requires-clause-to : goal.draw_stand-requires-clause-to
draw_stand-requires-clause-to c =
    subst (λ (l : List Node). c.args.to < length l) (sym c.loop-stand.invariant.nodes) c.requires.to

pub loop-stand-init : goal.loop-stand-init
loop-stand-init c = record {
  nodes = refl;
  steady = c.requires.steady;
  sets = keeps_same c.args.graph.now;
  judging = c.requires.judging;
  places = c.requires.places;
  adds = stands_none c.args.dir.now c.args.graph.now.nodes.items c.args.number c.args.graph.now c.args.kind c.args.to;
}

pub loop-stand-preserved : goal.loop-stand-preserved
loop-stand-preserved c =
    let dir = c.args.dir.now in
    let old = c.args.graph.now in
    let mid = c.loop-stand.graph in
    let new = c.draw_stand.new.graph in
    let was = c.loop-stand.invariant in
    let stands = c.stands-stands.result.now in
    let i = c.loop-stand.stand-index in
    let over = c.in_ok-draw_stand.ensures.over old.nodes.items (record { nodes = was.nodes; steady = was.steady }) in
    record {
      nodes = over.nodes;
      steady = over.steady;
      sets = keeps_both old mid new was.sets c.in_ok-draw_stand.ensures.sets;
      judging = c.in_ok-draw_stand.ensures.judging;
      places = subst (λ (l : List Node). ArePlaces dir l new c.draw_stand.new.places) was.nodes
          c.in_ok-draw_stand.ensures.places;
      adds = stands_more dir old.nodes.items mid.nodes.items c.args.number old mid new c.args.kind c.args.to stand_seen
          stands i _ c.loop-stand-test.true was.nodes was.adds c.in_ok-draw_stand.ensures.adds;
    }

pub returns-clause-over : goal.returns-clause-over
returns-clause-over c = λ nodes is.
    record { nodes = c.loop-stand.invariant.nodes ∙ is.nodes; steady = c.loop-stand.invariant.steady }

pub returns-clause-adds : goal.returns-clause-adds
returns-clause-adds c =
    let stands = c.stands-stands.result.now in
    by_places c.args.dir.now c.args.graph.now.nodes.items c.args.graph.now c.loop-stand.graph c.args.kind c.args.number
    c.args.to (map stand_seen (take c.loop-stand.stand-index stands))
    (ap (map stand_seen) (take_all c.loop-stand.stand-index stands c.loop-stand-test.false) ∙ c.stands-stands.ensures)
    c.loop-stand.invariant.adds
