use Rattle.std.proofs.Common.{◌≡◌, map}
use Rattle.ad_value.specs.Value.{Value}
use Rattle.ad_entries.proofs.entry.all_shown.Given as goal

-- those so far
abbrev pub invariant-loop-value : goal.invariant-loop-value
invariant-loop-value l = l.bytes ≡ map (λ (value : Value). value.shown) l.yielded
