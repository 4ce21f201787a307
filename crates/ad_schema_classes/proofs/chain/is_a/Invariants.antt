use Rattle.std.proofs.Common.{◌≡◌, map}
use Rattle.std.specs.List.{list_any}
use Rattle.ad_schema_classes.specs.Chains.{chain_within, chain, has_guid}
use Rattle.ad_schema_classes.proofs.chain.is_a.Given as goal

abbrev pub invariant-loop-left : goal.invariant-loop-left
invariant-loop-left l = list_any (has_guid (map (λ link. link.guid) l.links) l.guid)
    (chain_within (map (λ link. link.above) l.links) l.left l.at)
    ≡ list_any (has_guid (map (λ link. link.guid) l.links) l.guid) (chain (map (λ link. link.above) l.links) l.class)

abbrev pub decreases-loop-left : goal.decreases-loop-left
decreases-loop-left l = l.left
