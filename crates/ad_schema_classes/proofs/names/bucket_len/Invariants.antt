use Rattle.std.proofs.Common.{◌≤◌, length}
use Rattle.ad_schema_classes.specs.Hashes.{bucket}
use Rattle.ad_schema_classes.proofs.names.bucket_len.Given as goal

abbrev pub invariant-loop-n : goal.invariant-loop-n
invariant-loop-n l = l.n ≤ length (bucket l.hash 0 l.names)
