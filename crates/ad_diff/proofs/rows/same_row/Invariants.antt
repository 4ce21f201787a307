use Rattle.std.proofs.Common.{◌≡◌, take}
use Rattle.std.specs.List.{All}
use Rattle.ad_diff.specs.declared.columns.Column.{Column}
use Rattle.ad_diff.specs.Frames.{lines_at}
use Rattle.ad_diff.proofs.rows.same_row.Given as goal

-- they have the same so far
abbrev pub invariant-loop-column : goal.invariant-loop-column
invariant-loop-column l =
    All (λ (column : Column). lines_at l.frame column l.place ≡ lines_at l.frame column l.other)
    (take l.column-index l.columns)
