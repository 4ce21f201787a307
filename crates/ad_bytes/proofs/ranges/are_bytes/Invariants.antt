use Rattle.std.proofs.Common.{drop}
use Rattle.std.specs.List.{AllByRecursion}
use Rattle.ad_bytes.specs.Reading.{IsBytes}
use Rattle.ad_bytes.proofs.ranges.are_bytes.Given as goal

-- if the others are, all are
abbrev pub invariant-loop-value : goal.invariant-loop-value
invariant-loop-value l = AllByRecursion IsBytes (drop l.value-index l.values) → AllByRecursion IsBytes l.values
