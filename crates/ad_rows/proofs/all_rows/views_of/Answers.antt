use Rattle.std.proofs.Common.{◌++◌, ◌∷◌, [], List, ap, sym, ◌∙◌, take}
use Rattle.std.proofs.lemmas.List.{take_more}
use Rattle.row_store.specs.declared.row.Row.{Row}
use Rattle.ad_rows.proofs.all_rows.views_of.Goals as goal

pub loop-row-preserved : goal.loop-row-preserved
loop-row-preserved c =
    let rows = c.args.rows.now in
    let i = c.loop-row.row-index in
    let row = c.row-item.result in
    c.in_ok-push.ensures.items ∙ ap (λ (l : List Row). l ++ c.seen.result ∷ []) c.loop-row.invariant
    ∙ ap (λ (r : Row). take i rows ++ r ∷ []) (c.seen.ensures ∙ c.row-item.is)
    ∙ sym (take_more rows i row c.loop-row-test.true)
