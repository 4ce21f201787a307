use Rattle.ad_ids.specs.SidIndex.{bucket_of, IsIndexUpTo}
use Rattle.ad_ids.proofs.sid_index.make.Given as goal

-- the index of the identifiers so far
abbrev pub invariant-loop-i : goal.invariant-loop-i
invariant-loop-i l = IsIndexUpTo (bucket_of l.key) l.i l.heads.items l.before.items l.items
