use Rattle.std.proofs.Common.{◌≡◌, ◌-◌}
use Rattle.ad_bytes.specs.Reading.{many_at}
use Rattle.ad_bytes.proofs.Many.{with_front}
use Rattle.row_store.specs.RowReading.{row_at}
use Rattle.row_store.proofs.reading.rows.Given as goal

-- the rows so far, and those still to be read, are the whole
abbrev pub invariant-loop : goal.invariant-loop
invariant-loop l = with_front l.rows.items (many_at row_at (l.count - l.counter) l.input)
    ≡ many_at row_at l.count l.fn.input
