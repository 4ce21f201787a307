use Rattle.std.proofs.Common.{◌∙◌, cond, Some}
use Rattle.row_store.specs.Left.{table_in}
use Rattle.row_store.proofs.Lists.{key_at}
use Rattle.row_store.proofs.table.put.Goals as goal

pub returns-clause-left : goal.returns-clause-left
returns-clause-left c = λ k n. c.in_ok-insert.ensures.updates.0 (k, n)
    ∙ (λ i. cond (key_at c.args.kind c.args.number k n i) (Some c.args.body) (table_in c.args.left.now k n))
