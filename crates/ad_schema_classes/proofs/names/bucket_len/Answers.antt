use Rattle.std.proofs.Common.{arith}
use Rattle.ad_schema_classes.proofs.IndexLemmas.{bucket_few}
use Rattle.ad_schema_classes.proofs.names.bucket_len.Goals as goal

pub returns-clause-len : goal.returns-clause-len
returns-clause-len c = omega (arith, bucket_few c.args.hash 0 c.args.names.now, c.loop-n.invariant)
