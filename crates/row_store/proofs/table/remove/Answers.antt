use Rattle.std.proofs.Common.{◌∙◌, cond, None}
use Rattle.row_store.specs.Left.{table_in}
use Rattle.row_store.proofs.Lists.{key_at}
use Rattle.row_store.proofs.table.remove.Goals as goal

pub returns : goal.returns
returns c = record {
  left = λ k n. c.remove.ensures.updates.0 (k, n)
      ∙ (λ i. cond (key_at c.args.kind c.args.number k n i) None (table_in c.args.left.now k n));
}
