use Rattle.std.proofs.Common.{◌≡◌, ◌∙◌, ◌++◌, ℕ, true, List, map, sym, ap, subst}
use Rattle.std.specs.List.{All}
use Rattle.ad_dir_model.specs.Objects.{is_live}
use Rattle.ad_causes.specs.Cause.{causes_text}
use Rattle.ad_causes.specs.Causes.{causes}
use Rattle.ad_diff.specs.declared.columns.Column.{Column}
use Rattle.ad_diff.specs.declared.numbering.Grouped.{Grouped}
use Rattle.ad_diff.specs.Text.{table_text, blocks_text}
use Rattle.ad_diff.specs.Frames.{lines_at}
use Rattle.ad_diff.specs.Table.{row_of}
use Rattle.ad_diff.proofs.telling.text_of.Goals as goal

pub put_blocks-requires-clause-principals : goal.put_blocks-requires-clause-principals
put_blocks-requires-clause-principals c =
    subst (All (λ (g : Grouped). is_live c.args.after.now.objects g.both.after ≡ true)) (sym c.as_slice-3.ensures.value)
    (λ i d lt. (c.requires.principals i d lt).second)

pub put_blocks-requires-clause-objects : goal.put_blocks-requires-clause-objects
put_blocks-requires-clause-objects c =
    subst (All (λ (g : Grouped). is_live c.args.after.now.objects g.both.after ≡ true)) (sym c.as_slice-4.ensures.value)
    (λ i d lt. (c.requires.objects i d lt).second)

pub returns : goal.returns
returns c =
    let before = c.args.before.now in
    let after = c.args.after.now in
    let placing = c.args.placing.now in
    let rows = c.args.rows.now in
    let told = causes_text (causes before after) in
    let table = λ (columns : List Column) (leaders : List ℕ). table_text 1
    (map (λ (column : Column). row_of leaders (lines_at c.args.frame.now column)) columns) in
    c.in_ok-put_blocks.ensures
    ∙ ap (λ (t : List ℕ). t ++ blocks_text after c.as_slice-3.result.now c.as_slice-4.result.now
    c.as_slice-5.result.now) c.in_ok-text.ensures
    ∙ ap (λ (gs : List Grouped). told ++ blocks_text after gs c.as_slice-4.result.now c.as_slice-5.result.now)
    c.as_slice-3.ensures.value
    ∙ ap (λ (os : List Grouped). told ++ blocks_text after rows.groups.items os c.as_slice-5.result.now)
    c.as_slice-4.ensures.value
    ∙ ap (λ (t : List ℕ). told ++ blocks_text after rows.groups.items placing.objects.items t)
    (c.as_slice-5.ensures.value ∙ c.in_ok-put_table.ensures
    ∙ ap (λ (t : List ℕ). t ++ table c.as_slice.result.now c.as_slice-2.result.now) c.new-table.ensures.items
    ∙ ap (λ (cs : List Column). table cs c.as_slice-2.result.now) c.as_slice.ensures.value
    ∙ ap (λ (ls : List ℕ). table placing.columns.items ls) c.as_slice-2.ensures.value)
