use Rattle.std.proofs.Common.{take}
use Rattle.ad_diff.specs.Table.{AreGrouped}
use Rattle.ad_diff.proofs.rows.grouped.Given as goal

-- those so far are in groups
abbrev pub invariant-loop-principal : goal.invariant-loop-principal
invariant-loop-principal l =
    AreGrouped l.frame l.columns (take l.principal-index l.principals) l.rows.groups.items l.rows.leaders.items
