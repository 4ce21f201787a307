use Rattle.std.proofs.Common.{arith}
use Rattle.row_store.proofs.RowCodec.{batch_found, batch_only, batch_none}
use Rattle.row_store.proofs.reading.read_batch.Goals as goal

pub returns-clause-found : goal.returns-clause-found
returns-clause-found c = batch_found c.batch.result c.batch.new.input c.args.body.now
    (λ i. omega (arith, c.type_inv.body i)) (rw c.new-input.ensures at c.batch.ensures)

pub returns-clause-only : goal.returns-clause-only
returns-clause-only c = batch_only c.batch.result c.batch.new.input c.args.body.now
    (rw c.new-input.ensures at c.batch.ensures)

pub returns-clause-none : goal.returns-clause-none
returns-clause-none c = batch_none c.batch.result c.batch.new.input c.args.body.now
    (rw c.new-input.ensures at c.batch.ensures)
