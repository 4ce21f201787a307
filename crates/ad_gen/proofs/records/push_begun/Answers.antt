use Rattle.ad_gen.specs.Schema.{begun}
use Rattle.ad_bytes.proofs.Appended.{then}
use Rattle.ad_gen.proofs.records.push_begun.Goals as goal

pub returns : goal.returns
unfolding begun
returns c = then c.in_ok-push_named.ensures (then c.in_ok-push_line.ensures c.in_ok-push_line-2.ensures)
