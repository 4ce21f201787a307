use Rattle.std.proofs.Common.{◌++◌, ◌∷◌, [], ◌∙◌, List, ap, arith}
use Rattle.row_store.specs.declared.row.Row.{Row}
use Rattle.row_store.proofs.AsMade.{few, more_in, more_written}
use Rattle.row_store.proofs.written.WrittenRows.push.Goals as goal

pub overflow_add-result : goal.overflow_add-result
overflow_add-result c = omega (
  arith,
  few c.self.inside.count c.self.inside.bytes.items c.self.invariant,
  c.self.inside.bytes.ok,
  c.self.inside.bytes.small,
)

pub invariant_of-result : goal.invariant_of-result
invariant_of-result c =
    let put = c.in_ok-put_row.ensures in
    more_written c.self.inside.count c.self.inside.bytes.items put.0 c.put_row.new.into.items c.args.row.now
    c.self.invariant put.1 put.2

pub returns : goal.returns
returns c =
    let put = c.in_ok-put_row.ensures in
    more_in c.self.inside.count c.self.inside.bytes.items put.0 c.put_row.new.into.items c.args.row.now
    c.self.invariant put.1 put.2 ∙ ap (λ (l : List Row). l ++ c.args.row.now ∷ []) c.self.view_is
