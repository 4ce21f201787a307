use Rattle.ad_bytes.proofs.Appended.{then}
use Rattle.ad_gen.proofs.records.push_others.Goals as goal

pub returns : goal.returns
returns c = then c.in_ok-push_text.ensures c.in_ok-push_text-2.ensures
