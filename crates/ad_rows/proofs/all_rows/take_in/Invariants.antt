use Rattle.std.proofs.Common.{◌≡◌, drop}
use Rattle.std.specs.Option.{option_copied}
use Rattle.ad_rows.specs.Reading.{IsStillTaken}
use Rattle.ad_rows.specs.Taking.{parts_of, with_rows}
use Rattle.ad_rows.proofs.all_rows.take_in.Given as goal

-- what all rows give is what those still to be taken in give
abbrev pub invariant-loop-row : goal.invariant-loop-row
invariant-loop-row l = IsStillTaken (option_copied l.schema) l.fn.taken l.taken
    × (with_rows (option_copied l.schema) (parts_of l.taken) (drop l.row-index l.rows)
    ≡ with_rows (option_copied l.schema) (parts_of l.fn.taken) l.rows)
