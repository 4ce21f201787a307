use Rattle.std.proofs.Common.{take, map}
use Rattle.ad_dir_objects.specs.Seen.{stored_seen}
use Rattle.ad_dir_model.specs.Object.{names}
use Rattle.ad_protect.specs.Spreading.{Takes}
use Rattle.ad_protect.proofs.taking.take_links.Given as goal

-- those that the values so far name are taken
abbrev pub invariant-loop-value : goal.invariant-loop-value
invariant-loop-value l = Takes (λ n. names n (map stored_seen (take l.value-index l.values))) l.initial.taken.keys
    l.taken.keys
