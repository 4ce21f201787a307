use Rattle.std.proofs.Common.{◌≡◌, ℕ, ◌≤◌, ◌<◌, length}
use Rattle.ad_sddl.specs.Reading.{codes_at, field_at}
use Rattle.ad_sddl.proofs.field.read_codes.Given as goal

-- the codes so far, and those that are still to be read
abbrev pub invariant-loop-kind : goal.invariant-loop-kind
invariant-loop-kind l = (length l.input ≤ length l.initial.input)
    × ((n : ℕ) × ((length l.input < n) × (codes_at l.table l.kind n l.mask l.input ≡ field_at l.table l.kind
    l.initial.input)))

abbrev pub decreases-loop-kind : goal.decreases-loop-kind
decreases-loop-kind l = length l.input
