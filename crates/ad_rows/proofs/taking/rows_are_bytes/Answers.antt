use Rattle.std.proofs.Common.{List, take_all, subst}
use Rattle.std.specs.Prelude.{All}
use Rattle.std.proofs.lemmas.List.Elements.{All-more, recursion_from_All}
use Rattle.row_store.specs.declared.row.Row.{Row}
use Rattle.ad_rows.specs.Taking.{HasBytes}
use Rattle.ad_rows.proofs.taking.rows_are_bytes.Goals as goal

pub loop-row-preserved : goal.loop-row-preserved
loop-row-preserved c = All-more HasBytes c.args.rows.now c.loop-row.row-index c.row-item.result c.loop-row-test.true
    c.loop-row.invariant (subst HasBytes c.row-item.is c.has_bytes.ensures)

pub returns : goal.returns
returns c = recursion_from_All HasBytes c.args.rows.now
    (subst (λ (xs : List Row). All HasBytes xs) (take_all c.loop-row.row-index c.args.rows.now c.loop-row-test.false)
    c.loop-row.invariant)
