use Rattle.std.proofs.Common.{◌≡◌, ◌-◌, List}
use Rattle.ad_bytes.specs.Reading.{many_at}
use Rattle.ad_bytes.proofs.Many.{with_front}
use Rattle.ad_ids.specs.declared.mark.Mark.{Mark}
use Rattle.ad_ids.specs.SidValue.{SidValue}
use Rattle.ad_ids.specs.Token.{enabled_of, deny_only_of}
use Rattle.ad_ids.specs.TokenReading.{marked_at}
use Rattle.ad_ids.proofs.token_reading.groups.Given as goal

-- the groups so far, parted by their marks, and those still to be read, are the whole
abbrev pub invariant-loop : goal.invariant-loop
invariant-loop l =
    (front : List (Mark × SidValue)) × (l.enabled ≡ enabled_of front) × (l.deny_only ≡ deny_only_of front)
    × (with_front front (many_at marked_at (l.count - l.counter) l.input) ≡ many_at marked_at l.count l.fn.input)
