use Rattle.std.specs.Prelude.{take}
use Rattle.std.specs.List.{AllByRecursion}
use Rattle.ad_dir_objects.specs.Seen.{objects_of}
use Rattle.ad_dir_links.specs.Counted.{IsCounted}
use Rattle.ad_dir_links.proofs.holders.links_of_all.Given as goal

-- those of the objects so far are counted
abbrev pub invariant-each : goal.invariant-each
invariant-each l = AllByRecursion (IsCounted l.indexed l.links.entries) (objects_of (take l.one-index l.objects))
