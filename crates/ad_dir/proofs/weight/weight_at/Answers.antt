use Rattle.std.proofs.Common.{ap, Option}
use Rattle.std.specs.Option.{option_map_or}
use Rattle.ad_dir_model.specs.Object.{Object}
use Rattle.ad_dir_model.specs.Weight.{object_weight}
use Rattle.ad_dir.proofs.WeighingLaws.{weighs_as}
use Rattle.ad_dir.proofs.weight.weight_at.Goals as goal

pub returns-in-Some : goal.returns-in-Some
returns-in-Some c =
    weighs_as c.weight_of.result _ _ (ap (λ (found : Option Object). option_map_or (object_weight c.args.schema.now)
    found 0) c.in-Some.ensures) (c.weight_of.ensures _)

pub returns-in-None : goal.returns-in-None
returns-in-None c = ap (λ (found : Option Object). option_map_or (object_weight c.args.schema.now) found 0)
    c.in-None.ensures
