use Rattle.std.proofs.Common.{◌∙◌, ap}
use Rattle.ad_dir_model.specs.Directory.{Directory}
use Rattle.ad_dir_model.specs.Identity.{with_sid}
use Rattle.ad_dir_table.specs.Entry.{objects_in}
use Rattle.ad_dir_table.proofs.IndexLaws.{sid_found}
use Rattle.ad_dir.proofs.dir.Dir.with_sid.Goals as goal

pub returns : goal.returns
unfolding with_sid
returns c =
    c.with_sid.ensures
    ∙ sid_found c.self.inside.schema c.self.inside.index.sids.entries (objects_in c.self.inside.objects.entries)
    c.args.sid.now c.self.invariant.standing.rise c.self.invariant.indexed.sids
    ∙ ap (λ (dir : Directory). with_sid dir c.args.sid.now) c.self.view_is
