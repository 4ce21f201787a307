use Rattle.std.proofs.Common.{◌≡◌, ◌∙◌, ◌++◌, ◌+◌, ◌∷◌, [], List, ℕ, length, take, sym, ap, subst, append_assoc}
use Rattle.std.proofs.lemmas.List.{take_more}
use Rattle.ad_bytes.specs.Reading.{SpellsEach}
use Rattle.ad_bytes.specs.Numbers.{be_bytes}
use Rattle.row_store.specs.declared.row.Row.{Row}
use Rattle.row_store.specs.Row.{SpellsRow}
use Rattle.row_store.proofs.RowCodec.{each_push}
use Rattle.row_store.proofs.writing.write_batch.Goals as goal

pub loop-row-preserved : goal.loop-row-preserved
loop-row-preserved c =
    let rows = c.args.rows.now in
    let so_far = c.loop-row.invariant in
    let more = c.in_ok-put_row.ensures in
    let longer : take c.loop-row.row-index rows ++ c.row-item.result ∷ [] ≡ take (c.loop-row.row-index + 1) rows =
    ap (λ (x : Row). take c.loop-row.row-index rows ++ x ∷ []) c.row-item.is
    ∙ sym (take_more rows c.loop-row.row-index c.row-item.result c.loop-row-test.true) in (
      so_far.0 ++ more.0,
      subst (λ (rs : List Row). SpellsEach SpellsRow rs (so_far.0 ++ more.0)) longer
          (each_push (take c.loop-row.row-index rows) c.row-item.result so_far.0 more.0 so_far.1 more.1),
      more.2 ∙ ap (λ (l : List ℕ). l ++ more.0) so_far.2 ∙ append_assoc (be_bytes 8 (length rows)) so_far.0 more.0,
    )
