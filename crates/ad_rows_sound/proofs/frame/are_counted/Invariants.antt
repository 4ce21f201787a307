use Rattle.std.proofs.Common.{take}
use Rattle.std.specs.List.{AllByRecursion}
use Rattle.std.specs.Option.{option_copied}
use Rattle.ad_dir_objects.specs.Seen.{meta_seen, objects_of}
use Rattle.ad_rows_sound.specs.Parts.{IsCounted}
use Rattle.ad_rows_sound.proofs.frame.are_counted.Given as goal

abbrev pub invariant-loop-entry : goal.invariant-loop-entry
invariant-loop-entry l = AllByRecursion (IsCounted l.schema (option_copied l.domain) (meta_seen l.meta))
    (objects_of (take l.entry-index l.objects))
