use Rattle.std.proofs.Common.{◌≡◌, take, map}
use Rattle.std.specs.List.{flat_map}
use Rattle.ad_dir_objects.specs.Seen.{stored_seen}
use Rattle.ad_causes.specs.Extra.{texts}
use Rattle.ad_causes.specs.Causes.{shown_in}
use Rattle.ad_causes.proofs.objects.all_shown.Given as goal

-- those so far
abbrev pub invariant-loop-value : goal.invariant-loop-value
invariant-loop-value l =
    texts l.all.items ≡ flat_map shown_in (map stored_seen (take l.value-index l.values))
