use Rattle.std.proofs.Common.{subst}
use Rattle.ad_dir_model.specs.Directory.{Directory}
use Rattle.ad_dir_table.specs.Exact.{AreNames}
use Rattle.ad_dir.proofs.dir.Dir.names.Goals as goal

pub returns : goal.returns
returns c =
    subst (λ (dir : Directory). AreNames dir.objects c.self.inside.index.names.entries) c.self.view_is
    (record { exact = c.self.invariant.indexed.names; once = c.len-known.ensures.unique })
