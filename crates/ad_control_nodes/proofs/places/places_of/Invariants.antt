use Rattle.std.proofs.Common.{take}
use Rattle.std.specs.Prelude.{nat_eq}
use Rattle.indexmap.specs.IndexMap.{get}
use Rattle.ad_ids.specs.SidValue.{same_sid}
use Rattle.ad_control_nodes.specs.Steps.{AreAt}
use Rattle.ad_control_nodes.proofs.places.places_of.Given as goal

-- those so far
abbrev pub invariant-loop-place : goal.invariant-loop-place
invariant-loop-place l = AreAt (take l.place l.nodes) (get nat_eq l.places.objects) (get same_sid l.places.sids)
