use Rattle.std.proofs.Common.{◌≡◌, false, take}
use Rattle.ad_sets.specs.Rows.{is_changed}
use Rattle.ad_sets.proofs.row.own_value.Given as goal

-- none so far is of this place
abbrev pub invariant-loop-change : goal.invariant-loop-change
invariant-loop-change l = is_changed (take l.change-index l.changes) l.own ≡ false
