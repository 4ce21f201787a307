use Rattle.ad_diff_rights.proofs.Leaves.{leaves_are_long, leaf_masks}
use Rattle.ad_diff_rights.proofs.leaf_masks.attr_masks.Goals as goal

pub returns-clause-long : goal.returns-clause-long
returns-clause-long c =
    let asked = c.args.asked.now in
    leaves_are_long asked.dir.now asked.token.now asked.own asked.number c.args.class c.args.attrs.now c.args.want
    c.tree_masks.result
    (c.attributes_are_leaves.ensures asked.dir.now.schema c.args.class c.args.attrs.now c.requires.class
    c.requires.attrs) c.tree_masks.ensures.nodes

pub returns-clause-granted : goal.returns-clause-granted
returns-clause-granted c =
    let asked = c.args.asked.now in
    leaf_masks asked.dir.now asked.token.now asked.own asked.number c.args.class c.args.attrs.now c.args.want
    c.tree_masks.result
    (c.attributes_are_leaves.ensures asked.dir.now.schema c.args.class c.args.attrs.now c.requires.class
    c.requires.attrs)
    c.a_leaf_is_granted_where_its_path_is.ensures c.tree_masks.ensures.nodes c.tree_masks.ensures.granted
