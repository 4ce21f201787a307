use Rattle.std.proofs.Common.{◌∙◌, ap}
use Rattle.std.specs.Option.{option_and_then, option_copied}
use Rattle.ad_dir_model.specs.Directory.{Directory}
use Rattle.ad_dir_model.specs.Identity.{sid_in}
use Rattle.ad_dir_model.specs.Objects.{object_of}
use Rattle.ad_dir.proofs.Edits.{sid_told}
use Rattle.ad_dir.proofs.dir.Dir.self_sid.Goals as goal

pub returns : goal.returns
returns c =
    sid_told c.args.self.now c.args.number (option_copied c.sid.result)
    (c.sid.ensures c.self.inside.schema c.self.invariant.sids
    ∙ ap (λ (dir : Directory). option_and_then (sid_in dir.schema) (object_of dir.objects c.args.number))
    c.self.view_is)
