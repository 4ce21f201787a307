use Rattle.std.proofs.Common.{◌≡◌, map}
use Rattle.ad_schema_classes.specs.Chains.{chain_within, chain, first_along}
use Rattle.ad_schema_classes.proofs.chain.naming_along.Given as goal

abbrev pub invariant-loop-left : goal.invariant-loop-left
invariant-loop-left l = first_along (map (λ link. link.naming) l.links)
    (chain_within (map (λ link. link.above) l.links) l.left l.at) ≡ first_along (map (λ link. link.naming) l.links)
    (chain (map (λ link. link.above) l.links) l.class)

abbrev pub decreases-loop-left : goal.decreases-loop-left
decreases-loop-left l = l.left
