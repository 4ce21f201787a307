use Rattle.std.proofs.Common.{◌≡◌, take}
use Rattle.ad_diff.specs.Frames.{row_texts, all_bares}
use Rattle.ad_diff.proofs.bases.rows_of.Given as goal

-- the rows so far
abbrev pub invariant-loop-o : goal.invariant-loop-o
invariant-loop-o l = row_texts l.rows.items ≡ all_bares l.sides l.places (take l.o-index l.objects)
