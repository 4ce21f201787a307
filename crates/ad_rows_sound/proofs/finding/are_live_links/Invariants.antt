use Rattle.std.proofs.Common.{take, map}
use Rattle.std.specs.List.{AllByRecursion}
use Rattle.ad_dir_objects.specs.Seen.{objects_of, stored_seen}
use Rattle.ad_rows_sound.specs.Parts.{IsLiveLink}
use Rattle.ad_rows_sound.proofs.finding.are_live_links.Given as goal

abbrev pub invariant-loop-stored : goal.invariant-loop-stored
invariant-loop-stored l = AllByRecursion (IsLiveLink (objects_of l.objects))
    (map stored_seen (take l.stored-index l.values))
