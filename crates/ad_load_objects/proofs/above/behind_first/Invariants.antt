use Rattle.std.proofs.Common.{◌≡◌, false, drop}
use Rattle.ad_load_objects.specs.Above.{behind}
use Rattle.ad_load_objects.proofs.above.behind_first.Given as goal

-- no comma so far ends the part
abbrev pub invariant-loop-place : goal.invariant-loop-place
invariant-loop-place l = behind l.marked (drop l.place l.key) ≡ behind false l.key
