use Rattle.std.proofs.Common.{ℕ, ◌<◌, sym, subst}
use Rattle.ad_dir_model.specs.Directory.{Directory}
use Rattle.ad_dir_links.specs.Counted.{counted}
use Rattle.ad_dir_table.specs.Entry.{objects_in}
use Rattle.ad_dir.specs.Values.{IsNextNamed}
use Rattle.ad_dir.proofs.HolderLaws.{next_so_named}
use Rattle.ad_dir.proofs.dir.Dir.next_named.Goals as goal

pub returns : goal.returns
returns c =
    let i = c.self.inside in
    subst (λ (dir : Directory). IsNextNamed dir.objects c.args.key.now c.args.above c.next_holder.result) c.self.view_is
    (next_so_named i.schema i.indexed.items i.links.entries (objects_in i.objects.entries) c.args.key.now c.args.above
    c.next_holder.result
    c.self.invariant.standing c.self.invariant.linked c.next_holder.ensures.above
    (λ holder small more some. c.next_holder.ensures.least holder small more
    (subst (λ (m : ℕ). 0 < counted i.links.entries m holder) (sym c.mark_of_name.ensures) some)))
