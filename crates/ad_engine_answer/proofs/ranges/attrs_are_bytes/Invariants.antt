use Rattle.std.proofs.Common.{ℕ, List, drop}
use Rattle.std.specs.List.{AllByRecursion}
use Rattle.ad_bytes.specs.Reading.{IsBytes}
use Rattle.ad_engine_answer.proofs.ranges.attrs_are_bytes.Given as goal

-- if the others are, all are
abbrev pub invariant-loop-attr : goal.invariant-loop-attr
invariant-loop-attr l =
    AllByRecursion (λ (attr : List ℕ × List (List ℕ)). AllByRecursion IsBytes attr.1) (drop l.attr-index l.attrs)
    → AllByRecursion (λ (attr : List ℕ × List (List ℕ)). AllByRecursion IsBytes attr.1) l.attrs
