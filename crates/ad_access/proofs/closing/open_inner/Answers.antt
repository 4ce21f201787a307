use Rattle.std.proofs.Common.{◌<◌, [], None, length, arith, rules}
use Rattle.ad_types.specs.declared.type_tree.Node.{Node}
use Rattle.ad_types.proofs.TreeLaws.{above_earlier}
use Rattle.ad_access.proofs.NodeClosing.{opened_root, opened_more, opened_all}
use Rattle.ad_access.proofs.closing.open_inner.Goals as goal

pub loop-node-preserved-in_default : goal.loop-node-preserved-in_default
loop-node-preserved-in_default c =
    let l = c.loop-node in
    let d : Node = record { guid = record { bytes = [] }; above = None } in
    opened_root c.args.nodes.now c.args.want c.args.rights.now l.rights l.node-index d c.loop-node-test.true
    c.in_default.is l.invariant

pub offset_bounds-rights-above : goal.offset_bounds-rights-above
offset_bounds-rights-above c =
    let l = c.loop-node in
    let d : Node = record { guid = record { bytes = [] }; above = None } in
    let early = above_earlier c.args.nodes.now l.node-index c.in-Some.above d c.requires.tree c.loop-node-test.true
    c.in-Some.is in
    let inside : c.in-Some.above < length l.rights = omega (arith, early, c.loop-node-test.true, l.invariant.len) in
    search rules

pub bounds-rights-above : goal.bounds-rights-above
bounds-rights-above c =
    let l = c.loop-node in
    let d : Node = record { guid = record { bytes = [] }; above = None } in
    let early = above_earlier c.args.nodes.now l.node-index c.in-Some.above d c.requires.tree c.loop-node-test.true
    c.in-Some.is in
    omega (arith, early, c.loop-node-test.true, l.invariant.len)

pub loop-node-preserved : goal.loop-node-preserved
loop-node-preserved c =
    let l = c.loop-node in
    let d : Node = record { guid = record { bytes = [] }; above = None } in
    opened_more c.args.nodes.now c.args.want c.args.rights.now l.rights l.node-index c.in-Some.above d c.requires.tree
    c.loop-node-test.true c.in-Some.is l.invariant

pub returns-clause-opened : goal.returns-clause-opened
returns-clause-opened c = opened_all c.args.nodes.now c.args.want c.args.rights.now c.loop-node.rights
    c.loop-node.node-index c.loop-node-test.false c.loop-node.invariant
