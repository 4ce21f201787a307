use Rattle.std.proofs.Common.{◌≡◌, drop, map}
use Rattle.ad_dir_objects.specs.Seen.{stored_seen}
use Rattle.ad_dir_model.specs.Object.{names}
use Rattle.ad_dir.proofs.holders.some_link_to.Given as goal

-- none so far is one
abbrev pub invariant-each : goal.invariant-each
invariant-each l = names l.target (map stored_seen (drop l.value-index l.stored))
    ≡ names l.target (map stored_seen l.stored)
