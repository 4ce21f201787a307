use Rattle.std.proofs.Common.{List, sym, ap, ◌∙◌}
use Rattle.ad_schema.specs.declared.line.SchemaRecord.{SchemaRecord}
use Rattle.ad_dir_objects.specs.Seen.{object_seen}
use Rattle.ad_dir_model.specs.Object.{Object}
use Rattle.ad_dir_model.specs.Objects.{sd_at}
use Rattle.ad_dir_model.specs.Weight.{object_weight}
use Rattle.ad_dir_objects.specs.Left.{left_of}
use Rattle.ad_change.proofs.OtherLaws.{all_are_others, less_one, left_within}
use Rattle.ad_change.proofs.light.weight_without.Goals as goal

pub overflow_sub-left : goal.overflow_sub-left
overflow_sub-left c = left_within _ c.in-Some-after_object.left
    (sym (c.in-Some-after_object.ensures (sd_at c.args.dir.now.objects c.args.number)))

pub returns-in-Some-after_object : goal.returns-in-Some-after_object
returns-in-Some-after_object c =
    let dir = c.args.dir.now in
    let old : Object = object_seen c.in-Some.object.now (sd_at dir.objects c.args.number) in
    λ known. c.less.ensures _ (less_one dir c.args.number c.args.all c.in-Some-after_object.left old
    c.invariants.ensures.rise (sym c.in-Some.ensures)
    (ap (λ (s : List SchemaRecord). left_of 268435456 (object_weight s old)) (sym c.schema.ensures)
    ∙ sym (c.in-Some-after_object.ensures (sd_at dir.objects c.args.number))) known)

pub returns-in-None : goal.returns-in-None
returns-in-None c = λ known. all_are_others c.args.dir.now c.args.number c.args.all (sym c.in-None.ensures) known
