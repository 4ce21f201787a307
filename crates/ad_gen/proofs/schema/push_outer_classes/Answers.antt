use Rattle.ad_gen.specs.Schema.{outer_classes}
use Rattle.ad_bytes.proofs.Appended.{then}
use Rattle.ad_gen.proofs.schema.push_outer_classes.Goals as goal

pub returns : goal.returns
unfolding outer_classes
returns c = then c.in_ok-push_own_class.ensures
    (then c.in_ok-push_own_class-2.ensures (then c.in_ok-push_own_class-3.ensures c.in_ok-push_own_class-4.ensures))
