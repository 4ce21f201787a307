use Rattle.std.proofs.Common.{◌≡◌, drop}
use Rattle.ad_sets.specs.Rows.{put_all}
use Rattle.ad_sets.proofs.row.put_all.Given as goal

-- those that are left lead to what all lead to
abbrev pub invariant-loop-change : goal.invariant-loop-change
invariant-loop-change l = put_all l.whole.items (drop l.change-index l.changes) ≡ put_all l.fn.whole.items l.changes
