use Rattle.std.proofs.Common.{◌≡◌, take, map}
use Rattle.std.specs.List.{AllByRecursion}
use Rattle.ad_dir_objects.specs.Seen.{objects_of}
use Rattle.ad_rows_sound.specs.Parts.{HasSid, sid_key}
use Rattle.ad_rows_sound.proofs.finding.sid_keys.Given as goal

abbrev pub invariant-loop-entry : goal.invariant-loop-entry
invariant-loop-entry l = (l.keys.items ≡ map (sid_key l.schema) (objects_of (take l.entry-index l.objects)))
    × AllByRecursion (HasSid l.schema) (objects_of (take l.entry-index l.objects))
