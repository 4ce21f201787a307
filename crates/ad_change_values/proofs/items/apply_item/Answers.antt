use Rattle.std.proofs.Common.{◌≡◌, List, map, sym, subst, ap, ◌∙◌}
use Rattle.std.proofs.lemmas.Result.{err_from_is_err_and}
use Rattle.ad_dir_objects.specs.Seen.{stored_seen}
use Rattle.ad_dir_model.specs.Object.{Stored, Held, stored_in}
use Rattle.ad_change_values.specs.ByAttr.{by_attr}
use Rattle.ad_change_values.specs.Items.{item_checks}
use Rattle.ad_change_values.specs.Judging.{HoldsNone, checks_on}
use Rattle.ad_change_values.proofs.HeldLaws.{none_without}
use Rattle.ad_change_values.proofs.SentLaws.{stops}
use Rattle.ad_change_values.proofs.ItemLaws.{item_decided, item_done}
use Rattle.ad_change_values.proofs.items.apply_item.Goals as goal

pub returns-in_err-new : goal.returns-in_err-new
returns-in_err-new c =
    let p = err_from_is_err_and c.from_residual-in_err-new.result c.from_residual-in_err-new.ensures.1 in
    let dir = c.args.dir.now in
    let old : List Held = by_attr c.args.rows.now.entries in
    let stored : List Stored = map stored_seen c.in_ok-stored.stored in
    let same : stored ≡ stored_in old c.args.item.now.attr.0 = ap (map stored_seen) c.in_ok-stored.ensures
    ∙ c.take_pile-taken.ensures.taken in
    rw (p.1, p.2) (stops (checks_on dir stored c.args.item.now) (item_checks dir old c.args.item.now)
    c.in_err-new.field-0.0
    (λ r is. item_decided dir old c.args.item.now stored same ∙ is) c.in_err-new.ensures)

pub put_pile-requires : goal.put_pile-requires
put_pile-requires c =
    subst (HoldsNone c.args.item.now.attr.0) (sym c.take_pile-taken.ensures.left)
    (none_without c.args.item.now.attr.0 (by_attr c.args.rows.now.entries))

pub returns : goal.returns
returns c =
    let dir = c.args.dir.now in
    let old : List Held = by_attr c.args.rows.now.entries in
    let stored : List Stored = map stored_seen c.in_ok-stored.stored in
    let same : stored ≡ stored_in old c.args.item.now.attr.0 = ap (map stored_seen) c.in_ok-stored.ensures
    ∙ c.take_pile-taken.ensures.taken in (
      item_decided dir old c.args.item.now stored same ∙ c.in_ok-new.ensures.0,
      (
        item_done dir old (by_attr c.take_pile-taken.new.rows.entries) (by_attr c.put_pile.new.rows.entries)
            c.args.item.now (map stored_seen c.in_ok-new.new) stored
            (map stored_seen c.in_ok-after.after) c.requires.rise same c.take_pile-taken.ensures.left
            c.in_ok-new.ensures.1.0 c.in_ok-after.ensures c.in_ok-put_pile.ensures,
        c.in_ok-new.ensures.1.1,
      ),
    )
