use Rattle.std.proofs.Common.{◌≡◌, List, subst, ap}
use Rattle.std.specs.Prelude.{option_map}
use Rattle.ad_dir_model.specs.Object.{Object}
use Rattle.ad_dir_model.specs.Directory.{Directory}
use Rattle.ad_dir_model.specs.Objects.{object_of, sd_at}
use Rattle.ad_dir_objects.specs.Seen.{object_seen}
use Rattle.ad_dir.proofs.dir.Dir.object.Goals as goal

pub returns : goal.returns
returns c =
    subst (λ (os : List Object). option_map (λ object. object_seen object.now (sd_at os c.args.number))
    c.object.result ≡ object_of os c.args.number) (ap (λ (dir : Directory). dir.objects) c.self.view_is)
    c.object.ensures
