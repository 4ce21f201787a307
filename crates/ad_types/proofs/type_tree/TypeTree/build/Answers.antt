use Rattle.std.proofs.Common.{[], refl, ap, ◌∙◌}
use Rattle.ad_types.specs.Tree.{is_tree}
use Rattle.ad_types.specs.TypesOf.{infos_at, sets_behind}
use Rattle.ad_types.proofs.BuildLaws.{is_tree-nodes_of, made}
use Rattle.ad_types.proofs.type_tree.TypeTree.build.Goals as goal

pub unwrap-requires : goal.unwrap-requires
unwrap-requires c =
    let infos = infos_at c.args.schema.now c.args.attrs.now in
    let tree = ap is_tree c.in_ok-nodes.ensures ∙ is_tree-nodes_of c.class_info.result.now.guid (sets_behind [] infos)
    infos in
    rw (made c.in_ok-nodes.nodes.items c.new.result c.new.ensures tree) refl
