use Rattle.std.specs.List.{list_any}
use Rattle.std.proofs.Common.{◌≡◌, map}
use Rattle.ad_schema_classes.specs.Chains.{chain_within, chain, contains, list_at}
use Rattle.ad_schema_classes.proofs.chain.is_under.Given as goal

abbrev pub invariant-loop-left : goal.invariant-loop-left
invariant-loop-left l = list_any (λ class. list_any (contains (chain (map (λ link. link.above) l.links) l.parent))
    (list_at (map (λ link. link.superiors) l.links) class))
    (chain_within (map (λ link. link.above) l.links) l.left l.at)
    ≡ list_any (λ class. list_any (contains (chain (map (λ link. link.above) l.links) l.parent))
    (list_at (map (λ link. link.superiors) l.links) class)) (chain (map (λ link. link.above) l.links) l.child)

abbrev pub decreases-loop-left : goal.decreases-loop-left
decreases-loop-left l = l.left
