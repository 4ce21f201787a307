use Rattle.std.proofs.Common.{◌≡◌, ◌++◌, drop, map}
use Rattle.std.specs.Prelude.{filter_map}
use Rattle.ad_dir_objects.specs.Seen.{stored_seen}
use Rattle.ad_dir_links.specs.Marks.{tie}
use Rattle.ad_dir_links.proofs.gather.push_ties.Given as goal

-- those so far and those of the values that are left are all
abbrev pub invariant-each : goal.invariant-each
invariant-each l =
    l.all.items ++ filter_map (tie l.counts l.attr.0) (map stored_seen (drop l.value-index l.values))
    ≡ l.initial.all.items ++ filter_map (tie l.counts l.attr.0) (map stored_seen l.values)
