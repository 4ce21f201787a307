use Rattle.std.proofs.Common.{◌≡◌, ◌-◌}
use Rattle.ad_bytes.specs.Reading.{many_at}
use Rattle.ad_bytes.proofs.Many.{with_front}
use Rattle.ad_rows.specs.Parsing.{line_at}
use Rattle.ad_rows.proofs.parsing.lines.Given as goal

-- those so far and those still to be read are the whole
abbrev pub invariant-loop : goal.invariant-loop
invariant-loop l = with_front l.lines.items (many_at line_at (l.count - l.counter) l.input) ≡ many_at line_at l.count
    l.fn.input
