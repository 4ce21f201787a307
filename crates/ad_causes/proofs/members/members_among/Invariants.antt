use Rattle.std.proofs.Common.{◌≡◌, take, map}
use Rattle.std.specs.List.{flat_map}
use Rattle.ad_dir_objects.specs.Seen.{stored_seen}
use Rattle.ad_causes.specs.Members.{member_in}
use Rattle.ad_causes.proofs.members.members_among.Given as goal

-- those so far
abbrev pub invariant-loop-value : goal.invariant-loop-value
invariant-loop-value l =
    l.all.items ≡ flat_map (member_in l.dir) (map stored_seen (take l.value-index l.values))
