use Rattle.ad_gen.specs.Schema.{attributes}
use Rattle.ad_bytes.proofs.Appended.{then}
use Rattle.ad_gen.proofs.schema.push_attributes.Goals as goal

pub returns : goal.returns
unfolding attributes
returns c = then c.in_ok-push_naming_attributes.ensures
    (then c.in_ok-push_identity_attributes.ensures
    (then c.in_ok-push_account_attributes.ensures c.in_ok-push_personal_attributes.ensures))
