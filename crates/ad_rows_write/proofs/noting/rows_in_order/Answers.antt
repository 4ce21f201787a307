use Rattle.ad_rows_write.proofs.Noted.{all_listed}
use Rattle.ad_rows_write.proofs.noting.rows_in_order.Goals as goal

pub returns : goal.returns
returns c = all_listed c.loop-kind.rows.items c.loop-kind.noted.entries c.args.noted.entries c.pop_first.result
    c.pop_first.ensures.variant c.in_default.is c.loop-kind.invariant
