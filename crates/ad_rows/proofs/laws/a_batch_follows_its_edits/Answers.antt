use Rattle.ad_rows.proofs.Batches.{follow_all}
use Rattle.ad_rows.proofs.laws.a_batch_follows_its_edits.Goals as goal

pub returns : goal.returns
returns c = follow_all
