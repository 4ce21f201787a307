use Rattle.std.proofs.Common.{◌≡◌, drop}
use Rattle.ad_filter.specs.Comparing.{passes, any_passes}
use Rattle.ad_filter.proofs.comparison.any_passes.Given as goal

-- none so far does
abbrev pub invariant-loop-value : goal.invariant-loop-value
invariant-loop-value l = any_passes l.syntax (passes l.comparison l.sent.key) (drop l.value-index l.values)
    ≡ any_passes l.syntax (passes l.comparison l.sent.key) l.values
