use Rattle.std.proofs.Common.{take, map}
use Rattle.std.specs.List.{AllByRecursion}
use Rattle.ad_dir_objects.specs.Seen.{objects_of, held_seen}
use Rattle.ad_rows_sound.specs.Parts.{AreLiveLinks}
use Rattle.ad_rows_sound.proofs.finding.has_live_links.Given as goal

abbrev pub invariant-loop-held : goal.invariant-loop-held
invariant-loop-held l = AllByRecursion (AreLiveLinks (objects_of l.objects))
    (map held_seen (take l.held-index l.values))
