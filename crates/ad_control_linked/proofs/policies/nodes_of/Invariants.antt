use Rattle.std.proofs.Common.{◌≡◌, take}
use Rattle.std.specs.Prelude.{filter_map, nat_eq}
use Rattle.indexmap.specs.IndexMap.{get}
use Rattle.ad_control_linked.proofs.policies.nodes_of.Given as goal

-- those so far
abbrev pub invariant-loop-number : goal.invariant-loop-number
invariant-loop-number l = l.found.items
    ≡ filter_map (λ n. get nat_eq l.ground.objects n) (take l.number-index l.numbers)
