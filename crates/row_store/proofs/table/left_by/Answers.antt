use Rattle.std.proofs.Common.{◌≡◌, ◌∷◌, [], ◌++◌, ◌+◌, ℕ, List, Err, take, drop, sym, ap, subst}
use Rattle.std.proofs.lemmas.Result.{err_from_is_err_and}
use Rattle.row_store.specs.declared.reading.RowFault.{RowFault}
use Rattle.row_store.specs.declared.reading.RowFault.TheVariants.{Bad}
use Rattle.row_store.specs.Left.{table_in}
use Rattle.row_store.specs.Row.{SpellsBatch, SpellBatches}
use Rattle.row_store.proofs.Tables.{table_push, spell_push, none_spelled}
use Rattle.row_store.proofs.Bodies.{bodies_more, bodies_split, bad_row}
use Rattle.row_store.proofs.table.left_by.Goals as goal

pub loop-body-preserved : goal.loop-body-preserved
loop-body-preserved c =
    let so_far = c.loop-body.invariant in
    let i = c.loop-body.body-index in
    let bodies = c.args.bodies.now in
    let body = c.body-item.result in
    let rows = c.in_ok-rows.rows.items in
    let spelled : SpellsBatch rows body = subst (λ (b : List ℕ). SpellsBatch rows b) c.bytes.ensures
    c.in_ok-rows.ensures.found in (
      so_far.0 ++ rows ∷ [],
      subst (SpellBatches (so_far.0 ++ rows ∷ [])) (bodies_more bodies i body c.loop-body-test.true c.body-item.is)
          (spell_push so_far.0 rows (take i bodies) body so_far.1 spelled),
      table_push so_far.0 rows (table_in c.loop-body.left) (table_in c.take_rows.new.left) so_far.2
          c.in_ok-take_rows.ensures.left,
    )

pub returns-in_err-rows-clause-broken : goal.returns-in_err-rows-clause-broken
returns-in_err-rows-clause-broken c = λ is batches all.
    let i = c.loop-body.body-index in
    let bodies = c.args.bodies.now in
    let body = c.body-item.result in
    let p = err_from_is_err_and c.from_residual.result c.from_residual.ensures.1 in
    let bad : c.in_err-rows.field-0.0 ≡ Bad = bad_row c.in_err-rows.field-0.0 c.from_residual.result p.0 p.1 p.2 is in
    let none = c.in_err-rows.ensures.none (ap (λ (f : RowFault). Err f) bad) in
    none_spelled (take i bodies) body (drop (i + 1) bodies)
    (λ rows s. none rows (subst (λ (b : List ℕ). SpellsBatch rows b) (sym c.bytes.ensures) s)) batches
    (subst (SpellBatches batches) (bodies_split bodies i body c.loop-body-test.true c.body-item.is) all)
