use Rattle.ad_gen.specs.Schema.{password_rights}
use Rattle.ad_bytes.proofs.Appended.{then}
use Rattle.ad_gen.proofs.schema.push_password_rights.Goals as goal

pub returns : goal.returns
unfolding password_rights
returns c = then c.in_ok-push_right.ensures (then c.in_ok-push_right-2.ensures c.in_ok-push_right-3.ensures)
