use Rattle.std.proofs.Common.{◌≡◌, true, map, take}
use Rattle.std.specs.Prelude.{filter_map}
use Rattle.ad_ids.specs.SidValue.{contains_sid}
use Rattle.ad_dir_objects.specs.Seen.{stored_seen}
use Rattle.ad_principals.specs.Groups.{sid_stored}
use Rattle.ad_principals.specs.Reaching.{Takes}
use Rattle.ad_principals.proofs.history.take_values.Given as goal

-- those so far are taken
abbrev pub invariant-loop-value : goal.invariant-loop-value
invariant-loop-value l =
    Takes (λ s. contains_sid (filter_map sid_stored (map stored_seen (take l.value-index l.values))) s ≡ true)
    l.initial.taken.keys l.taken.keys
