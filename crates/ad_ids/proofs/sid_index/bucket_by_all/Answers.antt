use Rattle.std.proofs.Common.{rules}
use Rattle.ad_ids.specs.SidIndex.{bucket_by_all}
use Rattle.ad_ids.proofs.sid_index.bucket_by_all.Goals as goal

pub returns-clause-value : goal.returns-clause-value
unfolding bucket_by_all
returns-clause-value c = search rules
