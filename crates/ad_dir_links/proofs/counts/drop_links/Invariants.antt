use Rattle.std.specs.Prelude.{take}
use Rattle.ad_dir_links.specs.Counted.{Drops}
use Rattle.ad_dir_links.proofs.counts.drop_links.Given as goal

-- those so far are counted no more
abbrev pub invariant-each : goal.invariant-each
invariant-each l = Drops l.holder (take l.target-index l.targets) l.initial.links.entries l.links.entries
