use Rattle.std.proofs.Common.{◌≡◌, ◌-◌}
use Rattle.ad_bytes.specs.Reading.{many_at}
use Rattle.ad_bytes.proofs.Many.{with_front}
use Rattle.ad_rows.specs.Parsing.{pending_at}
use Rattle.ad_rows.proofs.parsing.pending_entries.Given as goal

-- those so far and those still to be read are the whole
abbrev pub invariant-loop : goal.invariant-loop
invariant-loop l = with_front l.entries.items (many_at pending_at (l.count - l.counter) l.input)
    ≡ many_at pending_at l.count l.fn.input
