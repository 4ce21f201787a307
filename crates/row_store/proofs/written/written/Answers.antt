use Rattle.std.proofs.Common.{◌++◌, ◌∷◌, [], ◌∙◌, List, take, sym, ap}
use Rattle.std.proofs.lemmas.List.{take_more}
use Rattle.row_store.specs.declared.row.Row.{Row}
use Rattle.row_store.proofs.written.written.Goals as goal

pub loop-row-preserved : goal.loop-row-preserved
loop-row-preserved c =
    let rows = c.args.rows.now in
    let i = c.loop-row.row-index in
    let row = c.row-item.result in
    c.in_ok-written-2.ensures ∙ ap (λ (l : List Row). l ++ row ∷ []) c.loop-row.invariant
    ∙ ap (λ (x : Row). take i rows ++ x ∷ []) c.row-item.is ∙ sym (take_more rows i row c.loop-row-test.true)
