use Rattle.std.proofs.Common.{◌≡◌, drop}
use Rattle.ad_value.specs.Pieces.{fits_key}
use Rattle.ad_filter.specs.Comparing.{any_passes}
use Rattle.ad_filter.proofs.comparison.any_fits.Given as goal

-- none so far does
abbrev pub invariant-loop-value : goal.invariant-loop-value
invariant-loop-value l = any_passes l.syntax (fits_key l.pattern) (drop l.value-index l.values)
    ≡ any_passes l.syntax (fits_key l.pattern) l.values
