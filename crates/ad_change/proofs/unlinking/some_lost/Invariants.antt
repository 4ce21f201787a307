use Rattle.std.proofs.Common.{◌≡◌, drop, map}
use Rattle.ad_dir_objects.specs.Seen.{stored_seen}
use Rattle.ad_dir_model.specs.Changes.{goes_with}
use Rattle.ad_change.specs.Removing.{loses_some}
use Rattle.ad_change.proofs.unlinking.some_lost.Given as goal

-- none so far is lost
abbrev pub invariant-each : goal.invariant-each
invariant-each l =
    loses_some (goes_with l.dir l.target) (map stored_seen (drop l.value-index l.stored))
    ≡ loses_some (goes_with l.dir l.target) (map stored_seen l.stored)
