use Rattle.std.proofs.Common.{◌≡◌, ◌≤◌, ℕ, List, Ok, length}
use Rattle.ad_ids.specs.SidValue.{SidValue}
use Rattle.ad_ids.specs.SidReading.{sid_at}
use Rattle.ad_ids.specs.SidIndex.{bucket_of}
use Rattle.ad_ids.proofs.SidChains.{IsChainFrom}
use Rattle.ad_ids.proofs.sid_index.begun_in.Given as goal

-- the identifier is none of those further after
abbrev pub invariant-loop-end : goal.invariant-loop-end
invariant-loop-end l = record {
  within : l.end ≤ length l.items;
  chain : (sid : SidValue) (rest : List ℕ) → sid_at l.bytes ≡ Ok (sid, rest) → IsChainFrom (bucket_of l.fn.key) l.end
      l.items sid;
}

abbrev pub decreases-loop-end : goal.decreases-loop-end
decreases-loop-end l = l.end
