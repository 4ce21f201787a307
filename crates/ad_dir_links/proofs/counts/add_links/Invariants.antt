use Rattle.std.specs.Prelude.{take}
use Rattle.ad_dir_links.specs.Counted.{Adds}
use Rattle.ad_dir_links.proofs.counts.add_links.Given as goal

-- those so far are counted
abbrev pub invariant-each : goal.invariant-each
invariant-each l = Adds l.holder (take l.target-index l.targets) l.initial.links.entries l.links.entries
