use Rattle.std.proofs.Common.{◌≡◌, true, false, sym, ◌∙◌}
use Rattle.ad_schema_classes.proofs.WorkLemmas.{free_low, note_done, note_none}
use Rattle.ad_schema_classes.proofs.sets.note.Goals as goal

pub bounds-row-k : goal.bounds-row-k
bounds-row-k c = free_low c.args.row.now c.args.k (sym c.is_free.ensures ∙ c.if-is_free.true)

pub returns-in_ok-push : goal.returns-in_ok-push
returns-in_ok-push c = note_done c.args.row.now c.args.order.now.items _ c.args.k
    (sym c.is_free.ensures ∙ c.if-is_free.true) c.in_ok-push.ensures.items

pub returns-else-is_free : goal.returns-else-is_free
returns-else-is_free c = note_none c.args.row.now c.args.order.now.items c.args.k
    (sym c.is_free.ensures ∙ c.if-is_free.false)
