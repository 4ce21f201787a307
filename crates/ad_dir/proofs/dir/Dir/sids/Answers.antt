use Rattle.std.proofs.Common.{subst}
use Rattle.ad_dir_model.specs.Directory.{Directory}
use Rattle.ad_dir_table.specs.Exact.{AreSids}
use Rattle.ad_dir.proofs.dir.Dir.sids.Goals as goal

pub returns : goal.returns
returns c =
    subst (λ (dir : Directory). AreSids dir.schema dir.objects c.self.inside.index.sids.entries) c.self.view_is
    (record { exact = c.self.invariant.indexed.sids; once = c.len-known.ensures.unique })
