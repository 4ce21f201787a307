use Rattle.std.proofs.Common.{◌≡◌, ◌∙◌, ◌<◌, List, length, map, take, refl, sym, ap, subst}
use Rattle.std.proofs.lemmas.List.{take_all}
use Rattle.std.specs.List.{list_any}
use Rattle.ad_ids.specs.declared.token.Token.{Token}
use Rattle.ad_control_graph.specs.declared.node.Node.{Node}
use Rattle.ad_control_graph.specs.Kinds.{Held, row}
use Rattle.ad_control_graph.specs.Texts.{held_seen}
use Rattle.ad_control_graph.specs.Drawing.{Adds, IsBy}
use Rattle.ad_control_graph.proofs.SetLaws.{keeps_same, keeps_both}
use Rattle.ad_control_graph.proofs.ByLaws.{adds_any, adds_any_none}
use Rattle.ad_control.specs.Edges.{holds}
use Rattle.ad_control_nodes.specs.Ground.{IsGround}
use Rattle.ad_control_held.proofs.Values.{few}
use Rattle.ad_control_held.proofs.drawing.draw_held.Goals as goal

pub draw_value-requires-clause-bit : goal.draw_value-requires-clause-bit
draw_value-requires-clause-bit c =
    few c.args.kind c.held-texts.result.now c.loop-held.held-index _ c.held-texts.ensures c.loop-held-test.true

pub draw_value-requires-clause-steady : goal.draw_value-requires-clause-steady
draw_value-requires-clause-steady c = c.loop-held.invariant.steady

pub draw_value-requires-clause-ground : goal.draw_value-requires-clause-ground
draw_value-requires-clause-ground c =
    subst (λ (l : List Node). IsGround c.args.dir.now l c.args.ground.now) (sym c.loop-held.invariant.nodes)
    c.requires.ground

pub draw_value-requires-clause-to : goal.draw_value-requires-clause-to
draw_value-requires-clause-to c =
    subst (λ (l : List Node). c.args.to < length l) (sym c.loop-held.invariant.nodes) c.requires.to

pub loop-held-init : goal.loop-held-init
loop-held-init c =
    let dir = c.args.dir.now in
    let ground = c.args.ground.now in
    record {
      nodes = refl;
      steady = c.requires.steady;
      sets = keeps_same c.args.graph.now;
      adds = adds_any_none c.args.graph.now c.args.kind c.args.to ground.parties.tokens.all.items ground.at.items
          (λ (t : Token) (h : Held). holds dir t c.args.number h);
    }

pub loop-held-preserved : goal.loop-held-preserved
loop-held-preserved c =
    let dir = c.args.dir.now in
    let ground = c.args.ground.now in
    let old = c.args.graph.now in
    let was = c.loop-held.invariant in
    let over = c.in_ok-draw_value.ensures.over old.nodes.items (record { nodes = was.nodes; steady = was.steady }) in
    record {
      nodes = over.nodes;
      steady = over.steady;
      sets = keeps_both old c.loop-held.graph c.draw_value.new.graph was.sets c.in_ok-draw_value.ensures.sets;
      adds = adds_any old c.loop-held.graph c.draw_value.new.graph c.args.kind c.args.to ground.parties.tokens.all.items
          ground.at.items (λ (t : Token) (h : Held). holds dir t c.args.number h) held_seen c.held-texts.result.now
          c.loop-held.held-index _ c.loop-held-test.true was.adds c.in_ok-draw_value.ensures.adds;
    }

pub returns-clause-over : goal.returns-clause-over
returns-clause-over c = λ nodes is.
    record { nodes = c.loop-held.invariant.nodes ∙ is.nodes; steady = c.loop-held.invariant.steady }

pub returns-clause-adds : goal.returns-clause-adds
returns-clause-adds c =
    let dir = c.args.dir.now in
    let ground = c.args.ground.now in
    let texts = c.held-texts.result.now in
    let all : map held_seen (take c.loop-held.held-index texts) ≡ (row c.args.kind).held
    = ap (map held_seen) (take_all c.loop-held.held-index texts c.loop-held-test.false) ∙ c.held-texts.ensures in
    subst (λ (l : List Held). Adds c.args.graph.now c.loop-held.graph c.args.kind c.args.to
    (IsBy ground.parties.tokens.all.items ground.at.items
    (λ (t : Token). list_any (λ (h : Held). holds dir t c.args.number h) l))) all c.loop-held.invariant.adds
