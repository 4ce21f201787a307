use Rattle.std.proofs.Common.{◌≡◌, map, drop}
use Rattle.ad_dir_model.specs.Object.{stored_in}
use Rattle.ad_dir_objects.specs.Seen.{held_seen}
use Rattle.ad_dir_objects.proofs.sid.stored_of.Given as goal

-- none so far is of the attribute
abbrev pub invariant-loop-held : goal.invariant-loop-held
invariant-loop-held l = stored_in (map held_seen (drop l.held-index l.values)) l.attr.0
    ≡ stored_in (map held_seen l.values) l.attr.0
