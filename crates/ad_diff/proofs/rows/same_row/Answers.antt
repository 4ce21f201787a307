use Rattle.std.proofs.Common.{◌≡◌, subst}
use Rattle.std.specs.List.{All}
use Rattle.std.proofs.lemmas.List.{take_all}
use Rattle.std.proofs.lemmas.List.Elements.{All-more}
use Rattle.ad_diff.specs.declared.columns.Column.{Column}
use Rattle.ad_diff.specs.Frames.{lines_at}
use Rattle.ad_diff.proofs.rows.same_row.Goals as goal

pub loop-column-preserved : goal.loop-column-preserved
loop-column-preserved c = All-more (λ (column : Column). lines_at c.args.frame.now column c.args.place
    ≡ lines_at c.args.frame.now column c.args.other)
    c.args.columns.now c.loop-column.column-index c.column-item.result c.loop-column-test.true
    c.loop-column.invariant
    (subst (λ (column : Column). lines_at c.args.frame.now column c.args.place ≡ lines_at c.args.frame.now column
    c.args.other) c.column-item.is
    (c.same_lines.ensures c.if-not-same_lines.false))

pub returns : goal.returns
returns c = λ done. subst (All (λ (column : Column). lines_at c.args.frame.now column c.args.place
    ≡ lines_at c.args.frame.now column c.args.other))
    (take_all c.loop-column.column-index c.args.columns.now c.loop-column-test.false) c.loop-column.invariant
