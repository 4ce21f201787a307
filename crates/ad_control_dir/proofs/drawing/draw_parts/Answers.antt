use Rattle.std.proofs.Common.{ℕ, List, sym, subst, ◌∙◌}
use Rattle.ad_control_graph.specs.declared.node.Node.{Node}
use Rattle.ad_control_graph.specs.declared.node.Node.TheVariants.{Object}
use Rattle.ad_control_graph.specs.Drawing.{Adds}
use Rattle.ad_control_graph.proofs.SetLaws.{keeps_both}
use Rattle.ad_control_nodes.specs.Parts.{ByPlace}
use Rattle.ad_control_asked.proofs.Stays.{judging_stays}
use Rattle.ad_control_placed.specs.Places.{ArePlaces}
use Rattle.ad_control_placed.proofs.Staying.{places_stay}
use Rattle.ad_control_dir.proofs.Growing.{over_after, ground_over, below_over, all_parts, grows_by, is_drawing}
use Rattle.ad_control_dir.proofs.Growing.{all_drawn}
use Rattle.ad_control_dir.proofs.drawing.draw_parts.Goals as goal

pub draw_held-requires-clause-steady : goal.draw_held-requires-clause-steady
draw_held-requires-clause-steady c =
    (over_after c.args.graph.now c.draw_ways.new.graph c.requires.drawing.steady c.in_ok-draw_ways.ensures.over).steady

pub draw_held-requires-clause-ground : goal.draw_held-requires-clause-ground
draw_held-requires-clause-ground c =
    let old = c.args.graph.now in
    ground_over c.args.dir.now c.args.ground.now old.nodes.items c.draw_ways.new.graph c.requires.drawing.ground
    (over_after old c.draw_ways.new.graph c.requires.drawing.steady c.in_ok-draw_ways.ensures.over)

pub draw_held-requires-clause-to : goal.draw_held-requires-clause-to
draw_held-requires-clause-to c =
    let old = c.args.graph.now in
    below_over old.nodes.items c.draw_ways.new.graph c.args.to (Object c.args.number) c.requires.to
    (over_after old c.draw_ways.new.graph c.requires.drawing.steady c.in_ok-draw_ways.ensures.over)

pub draw_placed-requires-clause-steady : goal.draw_placed-requires-clause-steady
draw_placed-requires-clause-steady c =
    let old = c.args.graph.now in
    (c.in_ok-draw_held.ensures.over old.nodes.items
    (over_after old c.draw_ways.new.graph c.requires.drawing.steady c.in_ok-draw_ways.ensures.over)).steady

pub draw_placed-requires-clause-ground : goal.draw_placed-requires-clause-ground
draw_placed-requires-clause-ground c =
    let old = c.args.graph.now in
    ground_over c.args.dir.now c.args.ground.now old.nodes.items c.draw_held.new.graph c.requires.drawing.ground
    (c.in_ok-draw_held.ensures.over old.nodes.items
    (over_after old c.draw_ways.new.graph c.requires.drawing.steady c.in_ok-draw_ways.ensures.over))

pub draw_placed-requires-clause-to : goal.draw_placed-requires-clause-to
draw_placed-requires-clause-to c =
    let old = c.args.graph.now in
    below_over old.nodes.items c.draw_held.new.graph c.args.to (Object c.args.number) c.requires.to
    (c.in_ok-draw_held.ensures.over old.nodes.items
    (over_after old c.draw_ways.new.graph c.requires.drawing.steady c.in_ok-draw_ways.ensures.over))

pub draw_placed-requires-clause-judging : goal.draw_placed-requires-clause-judging
draw_placed-requires-clause-judging c =
    judging_stays c.args.dir.now c.args.ground.now c.draw_ways.new.graph c.draw_held.new.graph c.draw_ways.new.judging
    c.in_ok-draw_held.ensures.sets c.in_ok-draw_ways.ensures.judging

pub draw_placed-requires-clause-places : goal.draw_placed-requires-clause-places
draw_placed-requires-clause-places c =
    let old = c.args.graph.now in
    let one = c.draw_ways.new.graph in
    let two = c.draw_held.new.graph in
    let over = c.in_ok-draw_held.ensures.over old.nodes.items
    (over_after old one c.requires.drawing.steady c.in_ok-draw_ways.ensures.over) in
    subst (λ (l : List Node). ArePlaces c.args.dir.now l two c.args.places.now) (sym over.nodes)
    (places_stay c.args.dir.now old.nodes.items old two c.args.places.now
    (keeps_both old one two c.in_ok-draw_ways.ensures.sets c.in_ok-draw_held.ensures.sets) c.requires.places)

-- ---- all three

pub returns-clause-drawing : goal.returns-clause-drawing
returns-clause-drawing c =
    let dir = c.args.dir.now in
    let ground = c.args.ground.now in
    let old = c.args.graph.now in
    let one = c.draw_ways.new.graph in
    let two = c.draw_held.new.graph in
    let new = c.draw_placed.new.graph in
    let over = c.in_ok-draw_held.ensures.over old.nodes.items
    (over_after old one c.requires.drawing.steady c.in_ok-draw_ways.ensures.over) in
    is_drawing dir ground old new c.args.kind c.args.number c.args.to c.requires.drawing
    (c.in_ok-draw_placed.ensures.over old.nodes.items over) c.requires.live c.requires.of c.requires.to
    (all_parts dir old.nodes.items ground old one two new c.args.kind c.args.number c.args.to
    c.in_ok-draw_ways.ensures.adds c.in_ok-draw_held.ensures.adds
    (subst (λ (l : List Node). Adds two new c.args.kind c.args.to (ByPlace dir l c.args.kind c.args.number)) over.nodes
    c.in_ok-draw_placed.ensures.adds))

pub returns-clause-drawn : goal.returns-clause-drawn
returns-clause-drawn c =
    let dir = c.args.dir.now in
    let ground = c.args.ground.now in
    let old = c.args.graph.now in
    let one = c.draw_ways.new.graph in
    let two = c.draw_held.new.graph in
    let new = c.draw_placed.new.graph in
    let over = c.in_ok-draw_held.ensures.over old.nodes.items
    (over_after old one c.requires.drawing.steady c.in_ok-draw_ways.ensures.over) in
    all_drawn dir ground old new c.args.kind c.args.number c.args.to c.requires.drawing
    (c.in_ok-draw_placed.ensures.over old.nodes.items over) c.requires.live c.requires.of c.requires.to
    (all_parts dir old.nodes.items ground old one two new c.args.kind c.args.number c.args.to
    c.in_ok-draw_ways.ensures.adds c.in_ok-draw_held.ensures.adds
    (subst (λ (l : List Node). Adds two new c.args.kind c.args.to (ByPlace dir l c.args.kind c.args.number)) over.nodes
    c.in_ok-draw_placed.ensures.adds))

pub returns-clause-grows : goal.returns-clause-grows
returns-clause-grows c =
    let dir = c.args.dir.now in
    let ground = c.args.ground.now in
    let old = c.args.graph.now in
    let one = c.draw_ways.new.graph in
    let two = c.draw_held.new.graph in
    let new = c.draw_placed.new.graph in
    let over = c.in_ok-draw_held.ensures.over old.nodes.items
    (over_after old one c.requires.drawing.steady c.in_ok-draw_ways.ensures.over) in
    grows_by dir ground old one two new c.args.kind c.args.number c.args.to
    (c.in_ok-draw_placed.ensures.over old.nodes.items over).nodes
    c.in_ok-draw_ways.ensures.adds c.in_ok-draw_held.ensures.adds
    (subst (λ (l : List Node). Adds two new c.args.kind c.args.to (ByPlace dir l c.args.kind c.args.number)) over.nodes
    c.in_ok-draw_placed.ensures.adds)

pub returns-clause-places : goal.returns-clause-places
returns-clause-places c =
    let old = c.args.graph.now in
    let one = c.draw_ways.new.graph in
    let two = c.draw_held.new.graph in
    let new = c.draw_placed.new.graph in
    let over = c.in_ok-draw_held.ensures.over old.nodes.items
    (over_after old one c.requires.drawing.steady c.in_ok-draw_ways.ensures.over) in
    subst (λ (l : List Node). ArePlaces c.args.dir.now l new c.draw_placed.new.places)
    (over.nodes ∙ sym (c.in_ok-draw_placed.ensures.over old.nodes.items over).nodes)
    c.in_ok-draw_placed.ensures.places
