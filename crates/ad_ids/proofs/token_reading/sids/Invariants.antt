use Rattle.std.proofs.Common.{◌≡◌, ◌-◌}
use Rattle.ad_bytes.specs.Reading.{many_at}
use Rattle.ad_bytes.proofs.Many.{with_front}
use Rattle.ad_ids.specs.SidReading.{sid_at}
use Rattle.ad_ids.proofs.token_reading.sids.Given as goal

-- the identifiers so far, and those still to be read, are the whole
abbrev pub invariant-loop : goal.invariant-loop
invariant-loop l = with_front l.sids (many_at sid_at (l.count - l.counter) l.input) ≡ many_at sid_at l.count l.fn.input
