use Rattle.std.proofs.Common.{◌≡◌, map, drop}
use Rattle.ad_load_objects.specs.Objects.{has_root}
use Rattle.ad_load_records.specs.Seen.{seen}
use Rattle.ad_load_objects.proofs.order.has_root.Given as goal

-- no record so far is one of an object
abbrev pub invariant-loop-i : goal.invariant-loop-i
invariant-loop-i l = has_root (map seen (drop l.i l.records)) ≡ has_root (map seen l.records)
