use Rattle.std.proofs.Common.{List, ℕ, subst}
use Rattle.ad_rows_write.specs.Body.{SpellsQueue}
use Rattle.ad_rows_write.specs.Appends.{Appends}
use Rattle.ad_rows_write.proofs.Putting.{puts_all}
use Rattle.ad_rows_write.proofs.rows.queue_body.Goals as goal

pub returns : goal.returns
returns c = puts_all (SpellsQueue c.args.pending.now) c.put_list.new.into.items
    (subst (λ (l : List ℕ). Appends (SpellsQueue c.args.pending.now) l c.put_list.new.into.items)
    c.new-body.ensures.items c.in_ok-put_list.ensures)
