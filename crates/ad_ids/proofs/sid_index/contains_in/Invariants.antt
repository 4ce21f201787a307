use Rattle.ad_ids.specs.SidIndex.{bucket_of}
use Rattle.ad_ids.proofs.SidChains.{IsChainFrom}
use Rattle.ad_ids.proofs.sid_index.contains_in.Given as goal

-- the identifier is none of those further after
abbrev pub invariant-loop-end : goal.invariant-loop-end
invariant-loop-end l = IsChainFrom (bucket_of l.fn.key) l.end l.items l.sid

abbrev pub decreases-loop-end : goal.decreases-loop-end
decreases-loop-end l = l.end
