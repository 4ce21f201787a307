use Rattle.std.proofs.Common.{◌≡◌, ◌∙◌, Some, List, length, ap, sym}
use Rattle.std.specs.Prelude.{slice_get}
use Rattle.std.specs.Option.{option_copied}
use Rattle.std.proofs.lemmas.Option.{slice_get_within}
use Rattle.ad_control_graph.specs.declared.node.Node.{Node}
use Rattle.ad_control_graph.specs.declared.node.Node.TheVariants.{Object}
use Rattle.ad_who.proofs.Putting.{where_ok}
use Rattle.ad_control_lines.proofs.Told.{step_told, number_is, kind_is}
use Rattle.ad_control_lines.proofs.steps.put_arc.Goals as goal

pub returns : goal.returns
returns c =
    let nodes = c.args.graph.now.nodes.items in
    let ways = c.args.ways.now in
    let arc = c.requires.arc in
    let numbers = c.requires.tables.numbers in
    let object = c.object_at-object.result in
    let there : slice_get nodes c.args.to ≡ Some (Object object)
    = ap (λ (l : List Node). slice_get l c.args.to) (sym c.as_slice.ensures.value) ∙ c.object_at-object.ensures in
    let from = slice_get_within nodes c.args.from arc.node arc.is_node in
    let to = slice_get_within nodes c.args.to (Object object) there in
    where_ok c.put_step.result
    (step_told c.args.dir.now nodes c.args.graph.now.kinds.items ways c.args.length c.args.from c.args.place c.args.to
    c.index.result.now c.index-2.result.now object arc.node c.index-3.result.now
    (option_copied c.token_at-token.result) c.args.into.now.items c.put_step.new.into.items arc.is_node there
    (kind_is c.args.graph.now.kinds.items c.args.place arc.kind c.index-3.result.now arc.is_kind c.index-3.ensures)
    (c.token_at-token.ensures.token nodes arc.node c.requires.ground arc.is_node)
    (number_is ways (length nodes) c.args.tables.now.numbers.items c.args.from c.index.result.now numbers from
    c.index.ensures)
    (number_is ways (length nodes) c.args.tables.now.numbers.items c.args.to c.index-2.result.now numbers to
    c.index-2.ensures))
    c.put_step.ensures
