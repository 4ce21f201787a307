use Rattle.ad_gen.specs.Schema.{class}
use Rattle.ad_bytes.proofs.Appended.{then}
use Rattle.ad_gen.proofs.records.push_own_class.Goals as goal

pub returns : goal.returns
unfolding class
returns c = then c.in_ok-push_begun.ensures (then c.in_ok-push_guid.ensures c.in_ok-push_others.ensures)
