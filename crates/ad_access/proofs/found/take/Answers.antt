use Rattle.std.proofs.Common.{None, [], get_or, arith}
use Rattle.ad_types.specs.declared.type_tree.Node.{Node}
use Rattle.ad_types.proofs.TreeLaws.{tree_at}
use Rattle.ad_access.proofs.Taken.{within, taken_more}
use Rattle.ad_access.proofs.found.take.Goals as goal

pub is_about_node-about-requires : goal.is_about_node-about-requires
is_about_node-about-requires c =
    let l = c.loop-i in
    let nodes = c.args.nodes.now in
    let d : Node = record { guid = record { bytes = [] }; above = None } in
    within (get_or nodes l.i d).above l.i _ (tree_at nodes l.i d c.requires.tree c.loop-i-test.true)
    (omega (arith, l.invariant.len))

pub loop-i-preserved : goal.loop-i-preserved
loop-i-preserved c =
    let l = c.loop-i in
    let d : Node = record { guid = record { bytes = [] }; above = None } in
    taken_more c.args.nodes.now c.args.object c.args.rights c.args.allows c.args.found.now l.found l.open l.i d
    c.is_about_node-about.result c.decided-next.result c.requires.tree c.loop-i-test.true l.invariant
    c.is_about_node-about.ensures c.decided-next.ensures
