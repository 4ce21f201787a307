use Rattle.std.proofs.Common.{◌≡◌, Some, take, map}
use Rattle.std.specs.Prelude.{nat_eq}
use Rattle.indexmap.specs.IndexMap.{get}
use Rattle.ad_ids.specs.SidValue.{same_sid}
use Rattle.ad_control_nodes.specs.Steps.{place_for}
use Rattle.ad_control_nodes.proofs.places.places_for.Given as goal

-- those so far
abbrev pub invariant-loop-identity : goal.invariant-loop-identity
invariant-loop-identity l =
    map (λ place. Some place) l.at.items
    ≡ map (place_for (get nat_eq l.places.objects) (get same_sid l.places.sids)) (take l.identity-index l.all)
