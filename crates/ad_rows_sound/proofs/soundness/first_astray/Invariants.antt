use Rattle.std.proofs.Common.{take}
use Rattle.std.specs.List.{AllByRecursion}
use Rattle.ad_dir_objects.specs.Seen.{objects_of}
use Rattle.ad_rows_sound.specs.Parts.{IsStanding}
use Rattle.ad_rows_sound.proofs.soundness.first_astray.Given as goal

abbrev pub invariant-loop-entry : goal.invariant-loop-entry
invariant-loop-entry l = AllByRecursion (IsStanding l.schema (objects_of l.objects) l.pending)
    (objects_of (take l.entry-index l.objects))
