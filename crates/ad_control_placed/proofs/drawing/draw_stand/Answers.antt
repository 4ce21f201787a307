use Rattle.std.proofs.Common.{refl, ap}
use Rattle.std.proofs.lemmas.Result.{on_ok_weaker}
use Rattle.ad_control_graph.specs.Texts.{stand_seen}
use Rattle.ad_control_asked.proofs.Stays.{judging_stays}
use Rattle.ad_control_placed.proofs.Found.{the_holder}
use Rattle.ad_control_placed.proofs.Staying.{places_stay}
use Rattle.ad_control_placed.proofs.Stands.{by_root, by_parent, by_holder, by_policies, by_above, by_members}
use Rattle.ad_control_placed.proofs.drawing.draw_stand.Goals as goal

pub returns-in-TheRootItself-clause-judging : goal.returns-in-TheRootItself-clause-judging
returns-in-TheRootItself-clause-judging c =
    on_ok_weaker c.draw_object.result
    (λ sets. judging_stays c.args.dir.now c.args.ground.now c.args.graph.now c.draw_object.new.graph c.args.judging.now sets
    c.requires.judging) c.draw_object.ensures.sets

pub returns-in-TheRootItself-clause-places : goal.returns-in-TheRootItself-clause-places
returns-in-TheRootItself-clause-places c =
    on_ok_weaker c.draw_object.result
    (λ sets. places_stay c.args.dir.now c.args.graph.now.nodes.items c.args.graph.now c.draw_object.new.graph
    c.args.places.now sets c.requires.places) c.draw_object.ensures.sets

pub returns-in-TheRootItself-clause-adds : goal.returns-in-TheRootItself-clause-adds
returns-in-TheRootItself-clause-adds c =
    on_ok_weaker c.draw_object.result
    (by_root c.args.dir.now c.args.graph.now.nodes.items c.args.graph.now c.draw_object.new.graph c.args.kind c.args.number c.args.to (stand_seen c.args.stand) _
    (ap stand_seen c.in-TheRootItself.is) refl) c.draw_object.ensures.adds

pub returns-in-ItsParent-clause-judging : goal.returns-in-ItsParent-clause-judging
returns-in-ItsParent-clause-judging c =
    on_ok_weaker c.draw_object-in-ItsParent.result
    (λ sets. judging_stays c.args.dir.now c.args.ground.now c.args.graph.now c.draw_object-in-ItsParent.new.graph c.args.judging.now sets
    c.requires.judging) c.draw_object-in-ItsParent.ensures.sets

pub returns-in-ItsParent-clause-places : goal.returns-in-ItsParent-clause-places
returns-in-ItsParent-clause-places c =
    on_ok_weaker c.draw_object-in-ItsParent.result
    (λ sets. places_stay c.args.dir.now c.args.graph.now.nodes.items c.args.graph.now c.draw_object-in-ItsParent.new.graph
    c.args.places.now sets c.requires.places) c.draw_object-in-ItsParent.ensures.sets

pub returns-in-ItsParent-clause-adds : goal.returns-in-ItsParent-clause-adds
returns-in-ItsParent-clause-adds c =
    on_ok_weaker c.draw_object-in-ItsParent.result
    (by_parent c.args.dir.now c.args.graph.now.nodes.items c.args.graph.now c.draw_object-in-ItsParent.new.graph c.args.kind c.args.number c.args.to (stand_seen c.args.stand)
    c.giver_of.result (ap stand_seen c.in-ItsParent.is) c.giver_of.ensures) c.draw_object-in-ItsParent.ensures.adds

pub returns-in-ItsHolder-clause-judging : goal.returns-in-ItsHolder-clause-judging
returns-in-ItsHolder-clause-judging c =
    on_ok_weaker c.draw_object-in-ItsHolder.result
    (λ sets. judging_stays c.args.dir.now c.args.ground.now c.args.graph.now c.draw_object-in-ItsHolder.new.graph c.args.judging.now sets
    c.requires.judging) c.draw_object-in-ItsHolder.ensures.sets

pub returns-in-ItsHolder-clause-places : goal.returns-in-ItsHolder-clause-places
returns-in-ItsHolder-clause-places c =
    on_ok_weaker c.draw_object-in-ItsHolder.result
    (λ sets. places_stay c.args.dir.now c.args.graph.now.nodes.items c.args.graph.now c.draw_object-in-ItsHolder.new.graph
    c.args.places.now sets c.requires.places) c.draw_object-in-ItsHolder.ensures.sets

pub returns-in-ItsHolder-clause-adds : goal.returns-in-ItsHolder-clause-adds
returns-in-ItsHolder-clause-adds c =
    on_ok_weaker c.draw_object-in-ItsHolder.result
    (by_holder c.args.dir.now c.args.graph.now.nodes.items c.args.graph.now c.draw_object-in-ItsHolder.new.graph c.args.kind c.args.number c.args.to (stand_seen c.args.stand)
    c.holder_of.result (ap stand_seen c.in-ItsHolder.is)
    (the_holder c.args.dir.now c.args.number c.args.places.now.protected.keys c.args.places.now.holder
    c.holder_of.result c.requires.places.holder c.requires.places.protected c.holder_of.ensures)) c.draw_object-in-ItsHolder.ensures.adds

pub returns-in-ItsPolicies-clause-judging : goal.returns-in-ItsPolicies-clause-judging
returns-in-ItsPolicies-clause-judging c =
    on_ok_weaker c.draw_policies.result
    (λ sets. judging_stays c.args.dir.now c.args.ground.now c.args.graph.now c.draw_policies.new.graph c.args.judging.now sets
    c.requires.judging) c.draw_policies.ensures.sets

pub returns-in-ItsPolicies-clause-places : goal.returns-in-ItsPolicies-clause-places
returns-in-ItsPolicies-clause-places c =
    on_ok_weaker c.draw_policies.result
    (λ links. record {
      holder = c.requires.places.holder;
      protected = c.requires.places.protected;
      links = links;
    }) c.draw_policies.ensures.links

pub returns-in-ItsPolicies-clause-adds : goal.returns-in-ItsPolicies-clause-adds
returns-in-ItsPolicies-clause-adds c =
    on_ok_weaker c.draw_policies.result
    (by_policies c.args.dir.now c.args.graph.now.nodes.items c.args.graph.now c.draw_policies.new.graph c.args.kind c.args.number c.args.to (stand_seen c.args.stand)
    (ap stand_seen c.in-ItsPolicies.is)) c.draw_policies.ensures.adds

pub returns-in-Above-clause-places : goal.returns-in-Above-clause-places
returns-in-Above-clause-places c =
    on_ok_weaker c.draw_above.result
    (λ sets. places_stay c.args.dir.now c.args.graph.now.nodes.items c.args.graph.now c.draw_above.new.graph
    c.args.places.now sets c.requires.places) c.draw_above.ensures.sets

pub returns-in-Above-clause-adds : goal.returns-in-Above-clause-adds
returns-in-Above-clause-adds c =
    on_ok_weaker c.draw_above.result
    (by_above c.args.dir.now c.args.graph.now.nodes.items c.args.ground.now.parties.tokens.all.items c.args.ground.now.at.items c.args.graph.now c.draw_above.new.graph c.args.kind c.args.number c.args.to (stand_seen c.args.stand)
    c.in-Above.question.now c.requires.ground.tokens (ap stand_seen c.in-Above.is)) c.draw_above.ensures.adds

pub returns-in-ItsMembers-clause-judging : goal.returns-in-ItsMembers-clause-judging
returns-in-ItsMembers-clause-judging c =
    on_ok_weaker c.draw_members.result
    (λ sets. judging_stays c.args.dir.now c.args.ground.now c.args.graph.now c.draw_members.new.graph c.args.judging.now sets
    c.requires.judging) c.draw_members.ensures.sets

pub returns-in-ItsMembers-clause-places : goal.returns-in-ItsMembers-clause-places
returns-in-ItsMembers-clause-places c =
    on_ok_weaker c.draw_members.result
    (λ sets. places_stay c.args.dir.now c.args.graph.now.nodes.items c.args.graph.now c.draw_members.new.graph
    c.args.places.now sets c.requires.places) c.draw_members.ensures.sets

pub returns-in-ItsMembers-clause-adds : goal.returns-in-ItsMembers-clause-adds
returns-in-ItsMembers-clause-adds c =
    on_ok_weaker c.draw_members.result
    (by_members c.args.dir.now c.args.graph.now.nodes.items c.args.ground.now.parties.tokens.all.items c.args.ground.now.at.items c.args.graph.now c.draw_members.new.graph c.args.kind c.args.number c.args.to (stand_seen c.args.stand)
    c.requires.ground.tokens (ap stand_seen c.in-ItsMembers.is)) c.draw_members.ensures.adds
