use Rattle.std.proofs.Common.{◌≡◌, ◌++◌, map, drop}
use Rattle.std.specs.List.{flat_map, AllByRecursion}
use Rattle.ad_dir_objects.specs.Seen.{held_seen}
use Rattle.ad_needs_rules.specs.Checks.{first_failing}
use Rattle.ad_change.specs.Adding.{attr_checks}
use Rattle.ad_change.specs.Creating.{HasByteAttr, all_read}
use Rattle.ad_change.proofs.adding.judge_values.Given as goal

-- the checks of those that are left decide, what was read so far and is read of them is all that is read, and where
-- they are bytes, all are
abbrev pub invariant-each : goal.invariant-each
invariant-each l =
    (first_failing (flat_map (attr_checks l.dir) (drop l.attr-index l.values))
    ≡ first_failing (flat_map (attr_checks l.dir) l.values))
    × (map held_seen l.held.items ++ all_read l.dir (drop l.attr-index l.values) ≡ all_read l.dir l.values)
    × (AllByRecursion HasByteAttr (drop l.attr-index l.values) → AllByRecursion HasByteAttr l.values)
