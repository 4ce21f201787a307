use Rattle.ad_gen.specs.Schema.{schema}
use Rattle.ad_bytes.proofs.Appended.{then}
use Rattle.ad_gen.proofs.schema.push_schema.Goals as goal

pub returns : goal.returns
unfolding schema
returns c = then c.in_ok-push_attributes.ensures
    (then c.in_ok-push_outer_classes.ensures
    (then c.in_ok-push_account_classes.ensures
    (then c.in_ok-push_password_rights.ensures c.in_ok-push_validated_writes.ensures)))
