use Rattle.std.proofs.Common.{◌∙◌, Some, sym, ap}
use Rattle.std.proofs.lemmas.Option.{slice_get-get_or}
use Rattle.ad_control_graph.specs.declared.node.Node.{Node}
use Rattle.ad_who.proofs.Putting.{where_ok}
use Rattle.ad_control_lines.proofs.Told.{object_told}
use Rattle.ad_control_lines.proofs.nodes.put_object_if.Goals as goal

pub returns-in-Some : goal.returns-in-Some
returns-in-Some c =
    let node = c.index-nodes-x.result in
    where_ok c.put_object.result
    (object_told c.args.dir.now c.args.nodes.now c.args.ways.now c.args.x _ node c.in-Some.field-0
    c.args.into.now.items c.put_object.new.into.items
    (slice_get-get_or c.args.nodes.now c.args.x node c.requires.x ∙ ap (λ (n : Node). Some n) (sym c.index-nodes-x.is))
    c.in-Some.ensures (c.requires.numbers.each c.args.x c.requires.x))
    c.put_object.ensures
