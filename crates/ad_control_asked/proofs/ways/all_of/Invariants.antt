use Rattle.std.proofs.Common.{take}
use Rattle.ad_control_asked.specs.Asked.{AreWaysFor}
use Rattle.ad_control_asked.proofs.ways.all_of.Given as goal

-- those of the kinds so far
abbrev pub invariant-loop-kind : goal.invariant-loop-kind
invariant-loop-kind l = AreWaysFor l.schema (take l.kind-index l.kinds) l.all.items
