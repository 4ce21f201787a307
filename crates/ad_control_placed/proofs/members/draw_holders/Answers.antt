use Rattle.std.proofs.Common.{◌<◌, List, length, refl, sym, subst}
use Rattle.std.proofs.lemmas.Result.{on_ok_weaker}
use Rattle.ad_control_graph.specs.declared.node.Node.{Node}
use Rattle.ad_control_graph.specs.Drawing.{IsIn, IsBy}
use Rattle.ad_control_graph.proofs.SetLaws.{keeps_both, set_alike}
use Rattle.ad_control_graph.proofs.AddLaws.{after_sets, drawn_from}
use Rattle.ad_control_nodes.proofs.Lists.{at_below}
use Rattle.ad_control_placed.specs.Standing.{has_group}
use Rattle.ad_control_placed.proofs.Groups.{only, all, members_below}
use Rattle.ad_control_placed.proofs.members.draw_holders.Goals as goal

pub put_set-requires : goal.put_set-requires
put_set-requires c =
    let ground = c.args.ground.now in
    record {
      members = members_below ground.parties.tokens.all.items ground.at.items c.args.sid.now
          ground.parties.tokens.holding c.in_ok-members.members.items c.requires.ground.parties.indexed.index
          c.in_ok-members.ensures (length c.args.graph.now.nodes.items)
          (at_below c.args.dir.now c.args.graph.now.nodes.items ground c.requires.ground);
    }

pub draw-requires-clause-steady : goal.draw-requires-clause-steady
draw-requires-clause-steady c =
    (c.in_ok-set.ensures.over c.args.graph.now.nodes.items (record { nodes = refl; steady = c.requires.steady })).steady

pub draw-requires-clause-set : goal.draw-requires-clause-set
draw-requires-clause-set c = c.in_ok-set.ensures.set.there

pub draw-requires-clause-to : goal.draw-requires-clause-to
draw-requires-clause-to c =
    subst (λ (l : List Node). c.args.to < length l) (sym c.in_ok-set.ensures.readies.nodes) c.requires.to

pub returns-clause-over : goal.returns-clause-over
returns-clause-over c =
    on_ok_weaker c.draw.result (λ over nodes is. over nodes (c.in_ok-set.ensures.over nodes is)) c.draw.ensures.over

pub returns-clause-sets : goal.returns-clause-sets
returns-clause-sets c =
    on_ok_weaker c.draw.result
    (λ sets. keeps_both c.args.graph.now c.put_set.new.self c.draw.new.self c.in_ok-set.ensures.sets sets)
    c.draw.ensures.sets

pub returns-clause-adds : goal.returns-clause-adds
returns-clause-adds c =
    let ground = c.args.ground.now in
    let tokens = ground.parties.tokens.all.items in
    let at = ground.at.items in
    let sid = c.args.sid.now in
    let holding = ground.parties.tokens.holding in
    let members = c.in_ok-members.members.items in
    let index = c.requires.ground.parties.indexed.index in
    let From = IsBy tokens at (has_group sid) in
    on_ok_weaker c.draw.result
    (λ adds. after_sets c.args.graph.now c.put_set.new.self c.draw.new.self c.args.kind c.args.to From c.requires.steady
    c.in_ok-set.ensures.readies
    (drawn_from c.put_set.new.self c.draw.new.self c.args.kind c.in_ok-set.set c.args.to From
    (set_alike c.put_set.new.self c.in_ok-set.set (IsIn members) From
    (only tokens at sid holding members index c.in_ok-members.ensures)
    (all tokens at sid holding members index c.in_ok-members.ensures) c.in_ok-set.ensures.set) adds))
    c.draw.ensures.adds
