use Rattle.std.proofs.Common.{◌+◌, drop, sym, ap, ◌∙◌}
use Rattle.ad_dir_objects.specs.Seen.{object_seen, objects_of}
use Rattle.ad_dir_model.specs.Weight.{object_weight, objects_weight}
use Rattle.ad_dir_objects.specs.Left.{left_of}
use Rattle.ad_dir_objects.proofs.Weights.{spent, too_heavy, nothing, objects_next, objects_end}
use Rattle.ad_dir_objects.proofs.weight.after_objects.Goals as goal

pub returns-in-None : goal.returns-in-None
returns-in-None c =
    sym (ap (left_of c.loop-entry.left)
    (objects_next c.args.schema.now c.args.objects.now c.loop-entry.entry-index c.entry-item.result
    c.loop-entry-test.true
    (sym c.entry-item.is)) ∙ too_heavy c.loop-entry.left (object_weight c.args.schema.now
    (object_seen c.entry-item.result.0 c.entry-item.result.1)) (objects_weight c.args.schema.now
    (objects_of (drop (c.loop-entry.entry-index + 1) c.args.objects.now))) (sym
    (c.after_object.ensures c.entry-item.result.1) ∙ c.in-None.is))
    ∙ c.loop-entry.invariant

pub loop-entry-preserved : goal.loop-entry-preserved
loop-entry-preserved c =
    sym (ap (left_of c.loop-entry.left)
    (objects_next c.args.schema.now c.args.objects.now c.loop-entry.entry-index c.entry-item.result
    c.loop-entry-test.true
    (sym c.entry-item.is)) ∙ spent c.loop-entry.left (object_weight c.args.schema.now
    (object_seen c.entry-item.result.0 c.entry-item.result.1)) (objects_weight c.args.schema.now
    (objects_of (drop (c.loop-entry.entry-index + 1) c.args.objects.now))) c.in-Some.less (sym
    (c.after_object.ensures c.entry-item.result.1) ∙ c.in-Some.is))
    ∙ c.loop-entry.invariant

pub returns : goal.returns
returns c = sym
    (ap (left_of c.loop-entry.left)
    (objects_end c.args.schema.now c.args.objects.now c.loop-entry.entry-index c.loop-entry-test.false)
    ∙ nothing c.loop-entry.left) ∙ c.loop-entry.invariant
