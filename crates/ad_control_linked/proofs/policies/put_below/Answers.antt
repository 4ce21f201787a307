use Rattle.ad_control_linked.proofs.Linking.{links_more}
use Rattle.ad_control_linked.proofs.policies.put_below.Goals as goal

pub returns-clause-links : goal.returns-clause-links
returns-clause-links c =
    links_more c.args.dir.now c.args.graph.now.nodes.items c.args.graph.now c.put_policies.new.graph c.args.links.now
    (record c.args.links.now { sets = c.insert.new.self }) c.args.parent c.in_ok-set.set c.args.number
    c.a_container_s_objects_have_the_same_policies.ensures.policies c.requires.below c.requires.parent
    c.in_ok-set.ensures.sets c.requires.links c.in_ok-set.ensures.set c.in_ok-insert.ensures.updates.0
