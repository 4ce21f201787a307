use Rattle.std.proofs.Common.{◌≡◌, map}
use Rattle.ad_schema_classes.specs.Chains.{chain_within, chain, contains}
use Rattle.ad_schema_classes.proofs.chain.is_above.Given as goal

abbrev pub invariant-loop-left : goal.invariant-loop-left
invariant-loop-left l = contains (chain_within (map (λ link. link.above) l.links) l.left l.at) l.superior
    ≡ contains (chain (map (λ link. link.above) l.links) l.class) l.superior

abbrev pub decreases-loop-left : goal.decreases-loop-left
decreases-loop-left l = l.left
