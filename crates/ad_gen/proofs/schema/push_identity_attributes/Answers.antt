use Rattle.ad_gen.specs.Schema.{identity_attributes}
use Rattle.ad_bytes.proofs.Appended.{then}
use Rattle.ad_gen.proofs.schema.push_identity_attributes.Goals as goal

pub returns : goal.returns
unfolding identity_attributes
returns c = then c.in_ok-push_attribute.ensures
    (then c.in_ok-push_attribute-2.ensures
    (then c.in_ok-push_attribute-3.ensures
    (then c.in_ok-push_attribute-4.ensures (then c.in_ok-push_attribute-5.ensures c.in_ok-push_attribute-6.ensures))))
