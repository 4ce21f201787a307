use Rattle.std.proofs.Common.{length, sym, ap, ◌∙◌, arith}
use Rattle.std.proofs.lemmas.List.{length-map, get_or_default}
use Rattle.ad_schema_classes.specs.Chains.{list_at}
use Rattle.ad_schema_classes.specs.Rows.{nexts}
use Rattle.ad_schema_classes.proofs.WorkLemmas.{set_starts, set_more, set_ends, work_less}
use Rattle.ad_schema_classes.proofs.sets.fill_set.Goals as goal

pub loop-n-init : goal.loop-n-init
loop-n-init c =
    let long = length-map c.args.links.now (λ link. link.neighbours) in
    set_starts (nexts c.args.links.now) c.args.class c.args.set.now c.note.new.row c.new-order.result.items
    c.note.new.order.items (omega (arith, long, c.requires.class)) (c.requires.len ∙ sym long) c.requires.blank
    c.new-order.ensures.items c.in_ok-note.ensures

pub loop-n-preserved : goal.loop-n-preserved
loop-n-preserved c =
    let long = length-map c.args.links.now (λ link. link.neighbours) in
    set_more (nexts c.args.links.now) c.args.class c.loop-n.set c.note_all.new.row c.loop-n.order.items
    c.note_all.new.order.items c.next_to.result.now c.loop-n.n (omega (arith, long, c.requires.class))
    (omega arith) (c.next_to.ensures ∙ ap (list_at (nexts c.args.links.now))
    (c.index-found.ensures ∙ get_or_default c.loop-n.order.items c.loop-n.n c.index-found.result.now 0
    (omega arith))) c.loop-n.invariant c.in_ok-note_all.ensures

pub returns : goal.returns
returns c = λ j lt.
    let long = length-map c.args.links.now (λ link. link.neighbours) in
    set_ends (nexts c.args.links.now) c.args.class c.loop-n.set c.loop-n.order.items c.loop-n.n
    (omega (arith, long, c.requires.class)) (omega arith) c.loop-n.invariant j (omega (arith, long, lt))
