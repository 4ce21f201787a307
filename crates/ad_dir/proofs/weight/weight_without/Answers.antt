use Rattle.std.proofs.Common.{◌+◌, List, sym}
use Rattle.ad_dir_model.specs.Object.{Object}
use Rattle.ad_dir_model.specs.Objects.{removed}
use Rattle.ad_dir_model.specs.Weight.{objects_weight}
use Rattle.ad_dir_table.specs.Entry.{objects_in}
use Rattle.ad_dir.specs.Weighing.{weight_in}
use Rattle.ad_dir.proofs.WeighingLaws.{removed_weighs, weighs_as}
use Rattle.ad_dir.proofs.weight.weight_without.Goals as goal

pub returns : goal.returns
returns c = λ rise all.
    let schema = c.args.schema.now in
    let os : List Object = objects_in c.args.objects.now.entries in
    let n = c.args.number in
    c.with_less.ensures (objects_weight schema (removed n os)) (weight_in schema os n)
    (weighs_as c.args.all (objects_weight schema os) (objects_weight schema (removed n os) + weight_in schema os n)
    (sym (removed_weighs schema 0 n os rise)) all)
    c.weight_at.ensures
