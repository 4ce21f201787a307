use Rattle.ad_gen.specs.Schema.{account_classes}
use Rattle.ad_bytes.proofs.Appended.{then}
use Rattle.ad_gen.proofs.schema.push_account_classes.Goals as goal

pub returns : goal.returns
unfolding account_classes
returns c = then c.in_ok-push_own_class.ensures (then c.in_ok-push_class.ensures c.in_ok-push_class-2.ensures)
