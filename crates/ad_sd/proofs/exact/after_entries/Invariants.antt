use Rattle.std.proofs.Common.{◌≡◌, ◌-◌, List}
use Rattle.ad_bytes.specs.Reading.{many_at}
use Rattle.ad_bytes.proofs.Many.{with_front}
use Rattle.ad_acl.specs.Entry.{Entry}
use Rattle.ad_sd.specs.NormalReading.{entry_exactly_at}
use Rattle.ad_sd.proofs.exact.after_entries.Given as goal

-- the entries so far and those that are still to be read are the whole
abbrev pub invariant-loop : goal.invariant-loop
invariant-loop l = (front : List Entry) × (with_front front (many_at entry_exactly_at (l.count - l.counter) l.rest)
    ≡ many_at entry_exactly_at l.count l.bytes)
