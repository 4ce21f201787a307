use Rattle.ad_gen.specs.Schema.{personal_attributes}
use Rattle.ad_bytes.proofs.Appended.{then}
use Rattle.ad_gen.proofs.schema.push_personal_attributes.Goals as goal

pub returns : goal.returns
unfolding personal_attributes
returns c = then c.in_ok-push_attribute.ensures (then c.in_ok-push_attribute-2.ensures c.in_ok-push_attribute-3.ensures)
