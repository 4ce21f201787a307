use Rattle.std.proofs.Common.{◌≡◌, [], map, length}
use Rattle.ad_dir_objects.specs.Seen.{held_seen}
use Rattle.ad_change.specs.Creating.{all_before}
use Rattle.ad_change_values.specs.ByAttr.{by_attr}
use Rattle.ad_change.proofs.by_attr.all_held.Given as goal

-- those that are left before those that are held are all
abbrev pub invariant-each : goal.invariant-each
invariant-each l = all_before (map held_seen l.read.items) (by_attr l.values.entries)
    ≡ all_before (map held_seen l.fn.read.items) []

abbrev pub decreases-each : goal.decreases-each
decreases-each l = length l.read.items
