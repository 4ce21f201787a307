use Rattle.std.proofs.lemmas.Result.{err_from_is_err_and}
use Rattle.ad_bytes.specs.Reading.{many_at}
use Rattle.ad_bytes.proofs.Many.{goes_on, ends, is_done}
use Rattle.row_store.specs.RowReading.{row_at}
use Rattle.row_store.proofs.reading.rows.Goals as goal

pub returns-in_err-row : goal.returns-in_err-row
returns-in_err-row c =
    let p = err_from_is_err_and c.from_residual.result c.from_residual.ensures.1 in
    rw (p.1, p.2) (λ not_memory. ends row_at c.in_err-row.field-0.0 c.loop.rows.items c.args.count c.loop.counter
    c.loop.input (many_at row_at c.args.count c.args.input.now) c.loop-test.true (c.in_err-row.ensures not_memory)
    c.loop.invariant)

pub loop-preserved : goal.loop-preserved
loop-preserved c =
    rw c.in_ok-push.ensures.items (goes_on row_at c.loop.rows.items c.args.count c.loop.counter c.loop.input
    c.in_ok-row.row c.row.new.input (many_at row_at c.args.count c.args.input.now) c.loop-test.true
    c.in_ok-row.ensures c.loop.invariant)

pub returns : goal.returns
returns c = is_done row_at c.loop.rows.items c.args.count c.loop.counter c.loop.input
    (many_at row_at c.args.count c.args.input.now) c.loop-test.false c.loop.invariant
