use Rattle.std.proofs.Common.{take}
use Rattle.ad_dir_objects.specs.Seen.{objects_of}
use Rattle.ad_rows_sound.specs.Parts.{ArePending}
use Rattle.ad_rows_sound.specs.Waiting.{AreParents}
use Rattle.ad_rows_sound.proofs.judging.first_bad_pending.Given as goal

-- the entries so far are good, and their parents are in the set
abbrev pub invariant-loop-i : goal.invariant-loop-i
invariant-loop-i l = record {
  good : ArePending (objects_of l.objects) (take l.i l.pending);
  seen : AreParents l.parents (take l.i l.pending);
}
