use Rattle.std.proofs.Common.{◌≡◌, take}
use Rattle.ad_diff_rights.specs.Steps.{texts}
use Rattle.ad_diff.specs.Frames.{bares_on}
use Rattle.ad_diff.proofs.bases.row_of.Given as goal

-- the lines so far
abbrev pub invariant-loop-place : goal.invariant-loop-place
invariant-loop-place l = texts l.row.items ≡ bares_on l.sides (take l.place-index l.places) l.fn.o
