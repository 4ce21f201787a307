use Rattle.std.proofs.Common.{ap, ◌∙◌}
use Rattle.std.specs.Option.{option_map}
use Rattle.std.proofs.lemmas.Option.{same_Some}
use Rattle.ad_dir_model.specs.Object.{Object}
use Rattle.ad_dir_model.proofs.Finding.{of-live}
use Rattle.ad_dir.proofs.live.live_sd.Goals as goal

pub returns : goal.returns
returns c = same_Some _ _ (c.in-Some.ensures ∙ ap (option_map (λ (o : Object). o.sd))
    (of-live c.args.dir.now.objects c.args.number c.requires))
