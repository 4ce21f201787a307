use Rattle.ad_gen.specs.Schema.{validated_writes}
use Rattle.ad_bytes.proofs.Appended.{then}
use Rattle.ad_gen.proofs.schema.push_validated_writes.Goals as goal

pub returns : goal.returns
unfolding validated_writes
returns c = then c.in_ok-push_right.ensures (then c.in_ok-push_right-2.ensures c.in_ok-push_right-3.ensures)
