use Rattle.std.proofs.Common.{◌+◌, map, drop, sym, ap, ◌∙◌}
use Rattle.ad_dir_objects.specs.Seen.{stored_seen}
use Rattle.ad_dir_model.specs.Weight.{stored_weight, values_weight}
use Rattle.ad_dir_objects.specs.Left.{left_of}
use Rattle.ad_dir_objects.proofs.Weights.{spent, too_heavy, nothing, values_next, values_end}
use Rattle.ad_dir_objects.proofs.weight.after_values.Goals as goal

pub returns-in-None : goal.returns-in-None
returns-in-None c =
    sym (ap (left_of c.loop-value.left)
    (values_next c.args.values.now c.loop-value.value-index c.value-item.result c.loop-value-test.true
    (sym c.value-item.is)) ∙ too_heavy c.loop-value.left (stored_weight
    (stored_seen c.value-item.result)) (values_weight
    (map stored_seen (drop (c.loop-value.value-index + 1) c.args.values.now))) (sym c.after_stored.ensures
    ∙ c.in-None.is))
    ∙ c.loop-value.invariant

pub loop-value-preserved : goal.loop-value-preserved
loop-value-preserved c =
    sym (ap (left_of c.loop-value.left)
    (values_next c.args.values.now c.loop-value.value-index c.value-item.result c.loop-value-test.true
    (sym c.value-item.is)) ∙ spent c.loop-value.left (stored_weight
    (stored_seen c.value-item.result)) (values_weight
    (map stored_seen
    (drop (c.loop-value.value-index + 1) c.args.values.now))) c.in-Some.less (sym c.after_stored.ensures
    ∙ c.in-Some.is))
    ∙ c.loop-value.invariant

pub returns : goal.returns
returns c = sym
    (ap (left_of c.loop-value.left) (values_end c.args.values.now c.loop-value.value-index c.loop-value-test.false)
    ∙ nothing c.loop-value.left) ∙ c.loop-value.invariant
