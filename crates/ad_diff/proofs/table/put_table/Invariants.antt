use Rattle.std.proofs.Common.{◌≡◌, ◌++◌, take, map}
use Rattle.ad_diff.specs.declared.columns.Column.{Column}
use Rattle.ad_diff.specs.Text.{table_text}
use Rattle.ad_diff.specs.Frames.{lines_at}
use Rattle.ad_diff.specs.Table.{row_of}
use Rattle.ad_diff.proofs.table.put_table.Given as goal

-- the columns so far
abbrev pub invariant-each : goal.invariant-each
invariant-each l =
    l.into.items ≡ l.fn.into.items ++ table_text 1
    (map (λ (column : Column). row_of l.leaders (lines_at l.frame column))
    (take l.i l.columns))
