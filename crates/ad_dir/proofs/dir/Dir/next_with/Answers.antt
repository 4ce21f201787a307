use Rattle.std.proofs.Common.{List, Bool, sym, subst}
use Rattle.ad_dir_model.specs.Directory.{Directory}
use Rattle.ad_dir_links.specs.Counted.{AreCounted}
use Rattle.ad_dir_table.specs.Entry.{objects_in}
use Rattle.ad_dir.specs.Values.{IsNextWith}
use Rattle.ad_dir.proofs.dir.Dir.next_with.Goals as goal

pub returns : goal.returns
returns c =
    let i = c.self.inside in
    subst (λ (dir : Directory). IsNextWith dir.objects c.args.attr.0 c.args.key.now c.args.above c.next_with.result)
    c.self.view_is
    (c.next_with.ensures (objects_in i.objects.entries) c.self.invariant.standing
    (subst (λ (flags : List Bool). AreCounted flags i.links.entries (objects_in i.objects.entries))
    (sym c.as_slice-indexed.ensures.value) c.self.invariant.linked))
