use Rattle.std.proofs.Common.{◌+◌, map, drop, sym, ap, ◌∙◌}
use Rattle.ad_dir_objects.specs.Seen.{held_seen}
use Rattle.ad_dir_model.specs.Weight.{held_weight, all_held_weight}
use Rattle.ad_dir_objects.specs.Left.{left_of}
use Rattle.ad_dir_objects.proofs.Weights.{spent, too_heavy, nothing, all_held_next, all_held_end}
use Rattle.ad_dir_objects.proofs.weight.after_all_held.Goals as goal

pub returns-in-None : goal.returns-in-None
returns-in-None c =
    sym (ap (left_of c.loop-held.left)
    (all_held_next c.args.schema.now c.args.values.now c.loop-held.held-index c.held-item.result c.loop-held-test.true
    (sym c.held-item.is)) ∙ too_heavy c.loop-held.left (held_weight c.args.schema.now
    (held_seen c.held-item.result)) (all_held_weight c.args.schema.now
    (map held_seen (drop (c.loop-held.held-index + 1) c.args.values.now))) (sym c.after_held.ensures
    ∙ c.in-None.is))
    ∙ c.loop-held.invariant

pub loop-held-preserved : goal.loop-held-preserved
loop-held-preserved c =
    sym (ap (left_of c.loop-held.left)
    (all_held_next c.args.schema.now c.args.values.now c.loop-held.held-index c.held-item.result c.loop-held-test.true
    (sym c.held-item.is)) ∙ spent c.loop-held.left (held_weight c.args.schema.now
    (held_seen c.held-item.result)) (all_held_weight c.args.schema.now
    (map held_seen
    (drop (c.loop-held.held-index + 1) c.args.values.now))) c.in-Some.less (sym c.after_held.ensures
    ∙ c.in-Some.is))
    ∙ c.loop-held.invariant

pub returns : goal.returns
returns c = sym
    (ap (left_of c.loop-held.left)
    (all_held_end c.args.schema.now c.args.values.now c.loop-held.held-index c.loop-held-test.false)
    ∙ nothing c.loop-held.left) ∙ c.loop-held.invariant
