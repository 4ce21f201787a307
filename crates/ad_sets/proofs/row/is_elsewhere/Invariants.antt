use Rattle.std.proofs.Common.{◌≡◌, false, take}
use Rattle.std.specs.List.{list_any}
use Rattle.ad_sets.specs.Rows.{is_elsewhere}
use Rattle.ad_sets.proofs.row.is_elsewhere.Given as goal

-- none so far
abbrev pub invariant-loop-change : goal.invariant-loop-change
invariant-loop-change l = list_any (is_elsewhere l.base l.own) (take l.change-index l.changes) ≡ false
