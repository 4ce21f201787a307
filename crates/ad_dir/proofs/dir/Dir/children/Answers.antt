use Rattle.std.proofs.Common.{◌∙◌, ap}
use Rattle.ad_dir_model.specs.Directory.{Directory}
use Rattle.ad_dir_model.specs.Objects.{children}
use Rattle.ad_dir.proofs.dir.Dir.children.Goals as goal

pub returns : goal.returns
returns c = c.children_of.ensures ∙ c.self.invariant.indexed.children c.args.parent
    ∙ ap (λ (dir : Directory). children dir.objects c.args.parent) c.self.view_is
