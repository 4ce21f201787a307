use Rattle.std.proofs.Common.{◌+◌, List, sym}
use Rattle.ad_dir_model.specs.Object.{Object}
use Rattle.ad_dir_model.specs.Objects.{put}
use Rattle.ad_dir_model.specs.Weight.{object_weight, objects_weight}
use Rattle.ad_dir_objects.specs.Seen.{object_seen}
use Rattle.ad_dir_table.specs.Entry.{objects_in}
use Rattle.ad_dir.specs.Weighing.{weight_in}
use Rattle.ad_dir.proofs.WeighingLaws.{put_weighs, weighs_as}
use Rattle.ad_dir.proofs.weight.weight_with.Goals as goal

pub returns : goal.returns
returns c = λ sd rise all.
    let schema = c.args.schema.now in
    let os : List Object = objects_in c.args.objects.now.entries in
    let o : Object = object_seen c.args.object.now sd in
    c.with_less.ensures (objects_weight schema (put o os)) (weight_in schema os o.number)
    (weighs_as c.with_more-more.result (objects_weight schema os + object_weight schema o)
    (objects_weight schema (put o os) + weight_in schema os o.number)
    (sym (put_weighs schema 0 o os rise))
    (c.with_more-more.ensures (objects_weight schema os) (object_weight schema o) all (c.weight_of.ensures sd)))
    c.weight_at.ensures
