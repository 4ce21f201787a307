use Rattle.std.proofs.Common.{◌≡◌, ◌++◌, drop, map}
use Rattle.ad_dir_objects.specs.Seen.{held_seen}
use Rattle.ad_dir_links.specs.Marks.{ties_in}
use Rattle.ad_dir_links.proofs.gather.push_all.Given as goal

-- those so far and those of the attributes that are left are all
abbrev pub invariant-each : goal.invariant-each
invariant-each l = l.all.items ++ ties_in l.indexed (map held_seen (drop l.held-index l.values)) ≡ l.initial.all.items
    ++ ties_in l.indexed (map held_seen l.values)
