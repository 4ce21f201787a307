use Rattle.std.proofs.Common.{◌≡◌, ◌-◌, ◌^◌, ◌<◌, ◌≤◌, length}
use Rattle.ad_sddl.specs.Reading.{digits_at}
use Rattle.ad_sddl.proofs.field.read_digits.Given as goal

-- the digits so far, and those that are still to be read
abbrev pub invariant-loop : goal.invariant-loop
invariant-loop l = (l.number < 16 ^ l.counter)
    × ((length l.input ≤ length l.initial.input)
    × (digits_at (8 - l.counter) l.number l.input ≡ digits_at 8 0 l.initial.input))
