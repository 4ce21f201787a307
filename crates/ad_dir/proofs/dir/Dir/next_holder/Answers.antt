use Rattle.std.proofs.Common.{subst}
use Rattle.ad_dir_model.specs.Directory.{Directory}
use Rattle.ad_dir_table.specs.Entry.{objects_in}
use Rattle.ad_dir.specs.Holders.{IsNextHolder}
use Rattle.ad_dir.proofs.HolderLaws.{next_found}
use Rattle.ad_dir.proofs.dir.Dir.next_holder.Goals as goal

pub returns : goal.returns
returns c =
    subst (λ (dir : Directory). IsNextHolder dir.objects c.args.target c.args.above c.next_holder.result) c.self.view_is
    (next_found c.self.inside.schema c.self.inside.indexed.items c.self.inside.links.entries
    (objects_in c.self.inside.objects.entries) c.args.target c.args.above c.next_holder.result
    c.self.invariant.standing c.self.invariant.linked c.next_holder.ensures.above c.next_holder.ensures.least)
