use Rattle.std.proofs.Common.{◌≡◌, ℕ, ◌<◌, length}
use Rattle.std.specs.Option.{option_copied}
use Rattle.ad_sddl.specs.Reading.{rest_at, parts_at}
use Rattle.ad_sddl.proofs.reading.read_all.Given as goal

-- the parts so far, and those that are still to be read
abbrev pub invariant-parts : goal.invariant-parts
invariant-parts l = (n : ℕ) × ((length l.input < n)
    × (rest_at (option_copied l.domain) n l.parts l.input ≡ parts_at (option_copied l.domain) l.initial.parts
    l.initial.input))

abbrev pub decreases-parts : goal.decreases-parts
decreases-parts l = length l.input
