use Rattle.std.proofs.Common.{◌<◌, List, length, refl, sym, subst}
use Rattle.std.proofs.lemmas.Result.{on_ok_weaker}
use Rattle.ad_policies.specs.Policies.{policies_of}
use Rattle.ad_control_graph.specs.declared.node.Node.{Node}
use Rattle.ad_control_graph.proofs.SetLaws.{keeps_same, keeps_both}
use Rattle.ad_control_graph.proofs.AddLaws.{after_sets, drawn_from}
use Rattle.ad_control_linked.specs.Links.{IsOneOf}
use Rattle.ad_control_linked.proofs.Linking.{links_stay, root_adds}
use Rattle.ad_control_linked.proofs.policies.draw_policies.Goals as goal

pub returns-then-number-eq-ROOT-clause-sets : goal.returns-then-number-eq-ROOT-clause-sets
returns-then-number-eq-ROOT-clause-sets c = keeps_same c.args.graph.now

pub returns-then-number-eq-ROOT-clause-adds : goal.returns-then-number-eq-ROOT-clause-adds
returns-then-number-eq-ROOT-clause-adds c =
    root_adds c.args.dir.now c.args.graph.now c.args.graph.now.nodes.items c.args.kind c.args.number c.args.to
    c.if-number-eq-ROOT.true

pub draw-requires-clause-steady : goal.draw-requires-clause-steady
draw-requires-clause-steady c =
    (c.in_ok-set.ensures.over c.args.graph.now.nodes.items (record { nodes = refl; steady = c.requires.steady })).steady

pub draw-requires-clause-set : goal.draw-requires-clause-set
draw-requires-clause-set c = c.in_ok-set.ensures.set.there

pub draw-requires-clause-to : goal.draw-requires-clause-to
draw-requires-clause-to c =
    subst (λ (l : List Node). c.args.to < length l) (sym c.in_ok-set.ensures.readies.nodes) c.requires.to

pub returns-clause-over : goal.returns-clause-over
returns-clause-over c =
    on_ok_weaker c.draw.result (λ over nodes is. over nodes (c.in_ok-set.ensures.over nodes is)) c.draw.ensures.over

pub returns-clause-sets : goal.returns-clause-sets
returns-clause-sets c =
    on_ok_weaker c.draw.result
    (λ sets. keeps_both c.args.graph.now c.policies_set.new.graph c.draw.new.self c.in_ok-set.ensures.sets sets)
    c.draw.ensures.sets

pub returns-clause-links : goal.returns-clause-links
returns-clause-links c =
    on_ok_weaker c.draw.result
    (λ sets. links_stay c.args.dir.now c.args.graph.now.nodes.items c.policies_set.new.graph c.draw.new.self
    c.policies_set.new.links sets c.in_ok-set.ensures.links) c.draw.ensures.sets

pub returns-clause-adds : goal.returns-clause-adds
returns-clause-adds c =
    let From = IsOneOf c.args.graph.now.nodes.items (policies_of c.args.dir.now c.args.number) in
    on_ok_weaker c.draw.result
    (λ adds. after_sets c.args.graph.now c.policies_set.new.graph c.draw.new.self c.args.kind c.args.to From
    c.requires.steady c.in_ok-set.ensures.readies
    (drawn_from c.policies_set.new.graph c.draw.new.self c.args.kind c.in_ok-set.set c.args.to From
    c.in_ok-set.ensures.set adds)) c.draw.ensures.adds
