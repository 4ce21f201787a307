use Rattle.std.proofs.Common.{map, refl, sym, subst, ◌∙◌}
use Rattle.std.proofs.lemmas.Result.{err_from_is_err_and}
use Rattle.ad_dir_objects.specs.Seen.{held_seen}
use Rattle.ad_change_values.specs.ByAttr.{by_attr}
use Rattle.ad_change_values.specs.Items.{item_checks, all_item_checks}
use Rattle.ad_change_values.proofs.SentLaws.{stops}
use Rattle.ad_change_values.proofs.ItemLaws.{AreDoneTo, items_more, items_no_more, items_done}
use Rattle.ad_change_values.proofs.items.judge_items.Goals as goal

pub loop-item-init : goal.loop-item-init
loop-item-init c =
    subst (AreDoneTo c.args.dir.now (map held_seen c.args.held.items) c.args.items.now 0) (sym c.in_ok-rows.ensures)
    (record { rise = c.requires.rise; checks = refl; after = refl; bytes = λ are. are })

pub returns-in_err-apply_item : goal.returns-in_err-apply_item
returns-in_err-apply_item c =
    let p = err_from_is_err_and c.from_residual-in_err-apply_item.result c.from_residual-in_err-apply_item.ensures.1 in
    let dir = c.args.dir.now in
    let first = map held_seen c.args.held.items in
    let held = by_attr c.loop-item.rows.entries in
    let item = c.item-item.result in
    rw (p.1, p.2) (stops (item_checks dir held item) (all_item_checks dir first c.args.items.now)
    c.in_err-apply_item.field-0.0
    (λ r is. items_no_more dir first c.args.items.now c.loop-item.item-index item held r c.loop-item-test.true
    c.item-item.is c.loop-item.invariant is)
    c.in_err-apply_item.ensures)

pub loop-item-preserved : goal.loop-item-preserved
loop-item-preserved c =
    items_more c.args.dir.now (map held_seen c.args.held.items) c.args.items.now c.loop-item.item-index
    c.item-item.result
    (by_attr c.loop-item.rows.entries) (by_attr c.apply_item.new.rows.entries) c.loop-item-test.true c.item-item.is
    c.in_ok-apply_item.ensures.0 c.in_ok-apply_item.ensures.1.0 c.in_ok-apply_item.ensures.1.1 c.loop-item.invariant

pub returns : goal.returns
returns c =
    let done = items_done c.args.dir.now (map held_seen c.args.held.items) c.args.items.now c.loop-item.item-index
    (by_attr c.loop-item.rows.entries)
    c.loop-item-test.false c.loop-item.invariant in
    (done.0, (c.in_ok-after.ensures ∙ done.1, done.2))
