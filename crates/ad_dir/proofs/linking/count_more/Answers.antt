use Rattle.std.proofs.Common.{ℕ, List, subst}
use Rattle.ad_dir_links.specs.Counted.{Adds}
use Rattle.ad_dir.proofs.linking.count_more.Goals as goal

pub returns-clause-adds : goal.returns-clause-adds
returns-clause-adds c =
    subst (λ (ts : List ℕ). Adds c.args.object.now.number ts c.args.links.now.entries c.add_links.new.links.entries)
    c.as_slice.ensures.value c.in_ok-add_links.ensures.ok
