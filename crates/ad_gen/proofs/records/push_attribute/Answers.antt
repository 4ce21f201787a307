use Rattle.ad_gen.specs.Schema.{attribute}
use Rattle.ad_bytes.proofs.Appended.{then}
use Rattle.ad_gen.proofs.records.push_attribute.Goals as goal

pub returns : goal.returns
unfolding attribute
returns c = then c.in_ok-push_begun.ensures
    (then c.in_ok-push_line.ensures (then c.in_ok-push_guid.ensures c.in_ok-push_others.ensures))
