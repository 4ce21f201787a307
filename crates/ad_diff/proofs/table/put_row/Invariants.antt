use Rattle.std.proofs.Common.{◌≡◌, ◌++◌, ℕ, take, map}
use Rattle.ad_diff.specs.Text.{row_text}
use Rattle.ad_diff.specs.Frames.{lines_at}
use Rattle.ad_diff.proofs.table.put_row.Given as goal

-- the groups so far
abbrev pub invariant-each : goal.invariant-each
invariant-each l =
    l.into.items ≡ l.fn.into.items ++ row_text l.objects 1 (map (λ (leader : ℕ). lines_at l.frame l.column leader)
    (take l.k l.leaders))
