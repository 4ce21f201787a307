use Rattle.std.proofs.Common.{◌≡◌, drop}
use Rattle.ad_rows.specs.Taking.{records_among}
use Rattle.ad_rows.proofs.taking.pass_all.Given as goal

-- what all rows give is what those still to be looked at give
abbrev pub invariant-loop-row : goal.invariant-loop-row
invariant-loop-row l = records_among l.builder (drop l.row-index l.rows) ≡ records_among l.initial.builder l.rows
