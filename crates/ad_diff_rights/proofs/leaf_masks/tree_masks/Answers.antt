use Rattle.std.proofs.Common.{◌≡◌, List, IfOk, length, subst}
use Rattle.std.specs.Option.{option_copied}
use Rattle.ad_sd.specs.Seen.{seen}
use Rattle.ad_types.specs.declared.type_tree.Node.{Node}
use Rattle.ad_diff_rights.proofs.Leaves.{node_masks}
use Rattle.ad_diff_rights.proofs.leaf_masks.tree_masks.Goals as goal

pub returns-clause-nodes : goal.returns-clause-nodes
returns-clause-nodes c =
    subst (λ (tree : List Node). IfOk c.check_tree.result (λ masks. length masks.items ≡ length tree))
    (rw c.schema.ensures at c.in_ok-tree.ensures) c.check_tree.ensures.nodes

pub returns-clause-granted : goal.returns-clause-granted
returns-clause-granted c =
    let asked = c.args.asked.now in
    node_masks asked.dir.now asked.token.now asked.own asked.number c.args.class c.args.attrs.now c.args.want
    c.check_tree.result c.in_ok-tree.tree (seen c.live_sd.result) (option_copied c.own_sid.result)
    (rw c.schema.ensures at c.in_ok-tree.ensures) c.live_sd.ensures c.own_sid.ensures c.check_tree.ensures.granted
