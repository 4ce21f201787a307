use Rattle.std.proofs.Common.{◌≡◌, take}
use Rattle.ad_rows.proofs.all_rows.views_of.Given as goal

-- the rows so far
abbrev pub invariant-loop-row : goal.invariant-loop-row
invariant-loop-row l = l.views.items ≡ take l.row-index l.rows
