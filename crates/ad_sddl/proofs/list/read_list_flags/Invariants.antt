use Rattle.std.proofs.Common.{◌≡◌, ℕ, ◌≤◌, length}
use Rattle.ad_sddl.specs.Reading.{list_flags_at, all_flags}
use Rattle.ad_sddl.proofs.list.read_list_flags.Given as goal

-- the flags so far, and those that are still to be read
abbrev pub invariant-loop-is_p : goal.invariant-loop-is_p
invariant-loop-is_p l = (n : ℕ) × ((length l.input ≤ n)
    × ((length l.input ≤ length l.initial.input) × (list_flags_at n l.protected l.input ≡ all_flags l.initial.input)))

abbrev pub decreases-loop-is_p : goal.decreases-loop-is_p
decreases-loop-is_p l = length l.input
