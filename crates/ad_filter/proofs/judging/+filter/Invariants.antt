use Rattle.std.proofs.Common.{◌≡◌, ◌+◌, ◌*◌, map, drop}
use Rattle.ad_ldap.specs.FilterValue.{filter_seen, filters_of, depth, depth_of_all}
use Rattle.ad_filter.specs.ThreeValues.{both, either}
use Rattle.ad_filter.specs.Filtering.{view_by, all_of, some_of}
use Rattle.ad_filter.specs.Keeping.{AreRead}
use Rattle.ad_filter.proofs.judging.+filter.Given as goal

-- A filter in another is less deep. Between the two lies the call for the list in which it stands.
abbrev pub decreases-truth_by : goal.decreases-truth_by
decreases-truth_by g l = 2 * depth (filter_seen l.filter.now)

abbrev pub decreases-all_of : goal.decreases-all_of
decreases-all_of g l = 2 * depth_of_all (filters_of (map filter_seen l.filters.now)) + 1

abbrev pub decreases-some_of : goal.decreases-some_of
decreases-some_of g l = 2 * depth_of_all (filters_of (map filter_seen l.filters.now)) + 1

-- what those so far say and those that are left is what all say, and what is kept tells what may be read
abbrev pub invariant-all_of-each : goal.invariant-all_of-each
invariant-all_of-each g l =
    (both l.so_far (all_of (view_by (g.V.Readable.named l.view) (g.V.Readable.shown l.view))
    (filters_of (map filter_seen (drop l.i l.filters))))
    ≡ all_of (view_by (g.V.Readable.named l.view) (g.V.Readable.shown l.view)) (filters_of (map filter_seen l.filters)))
    × AreRead (g.V.Readable.shown l.view) l.kept

abbrev pub invariant-some_of-each : goal.invariant-some_of-each
invariant-some_of-each g l =
    (either l.so_far (some_of (view_by (g.V.Readable.named l.view) (g.V.Readable.shown l.view))
    (filters_of (map filter_seen (drop l.i l.filters))))
    ≡ some_of (view_by (g.V.Readable.named l.view) (g.V.Readable.shown l.view))
    (filters_of (map filter_seen l.filters)))
    × AreRead (g.V.Readable.shown l.view) l.kept
