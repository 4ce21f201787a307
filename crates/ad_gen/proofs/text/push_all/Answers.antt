use Rattle.ad_gen.specs.Ldif.{ldif}
use Rattle.ad_bytes.proofs.Appended.{then}
use Rattle.ad_gen.proofs.text.push_all.Goals as goal

pub returns : goal.returns
unfolding ldif
returns c = then c.in_ok-push_schema.ensures
    (then c.in_ok-push_domain.ensures (then c.in_ok-push_containers.ensures
    (then c.in_ok-push_administrators.ensures c.in_ok-push_units.ensures)))
