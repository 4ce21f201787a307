use Rattle.std.proofs.Common.{take}
use Rattle.ad_rows_sound.specs.Waiting.{AreLeast}
use Rattle.ad_rows_sound.proofs.waiting.least_cursors.Given as goal

-- those of the entries so far
abbrev pub invariant-each : goal.invariant-each
invariant-each l = AreLeast l.least (take l.i l.entries)
