use Rattle.std.proofs.Common.{◌≡◌, ℕ, ◌≤◌, length}
use Rattle.ad_bytes.proofs.Many.{with_front}
use Rattle.std.specs.Option.{option_copied}
use Rattle.ad_sddl.specs.Reading.{entries_at, all_entries}
use Rattle.ad_sddl.proofs.list.read_entries.Given as goal

-- the entries so far, and those that are still to be read
abbrev pub invariant-entries : goal.invariant-entries
invariant-entries l = (n : ℕ) × ((length l.input ≤ n)
    × ((length l.input ≤ length l.initial.input)
    × (with_front l.entries (entries_at (option_copied l.domain) n l.input) ≡ all_entries (option_copied l.domain)
    l.initial.input)))

abbrev pub decreases-entries : goal.decreases-entries
decreases-entries l = length l.input
