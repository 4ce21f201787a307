use Rattle.std.proofs.Common.{◌≡◌, ◌-◌}
use Rattle.ad_bytes.specs.Reading.{many_at}
use Rattle.ad_bytes.proofs.Many.{with_front}
use Rattle.ad_acl.specs.Reading.{entry_at}
use Rattle.ad_acl.proofs.list.read_entries.Given as goal

-- the entries so far and those that are still to be read are the whole
abbrev pub invariant-loop : goal.invariant-loop
invariant-loop l = with_front l.entries.items (many_at entry_at (l.count - l.counter) l.body)
    ≡ many_at entry_at l.count l.fn.body
