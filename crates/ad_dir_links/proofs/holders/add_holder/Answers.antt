use Rattle.std.proofs.Common.{ℕ, List, ◌∙◌, subst}
use Rattle.std.specs.Prelude.{OnOk}
use Rattle.ad_dir_links.specs.Counted.{Adds}
use Rattle.ad_dir_links.proofs.holders.add_holder.Goals as goal

pub returns : goal.returns
returns c =
    subst (λ (ts : List ℕ). OnOk c.add_links.result
    (Adds c.args.object.now.number ts c.args.links.now.entries c.add_links.new.links.entries))
    (c.as_slice.ensures.value ∙ c.in_ok-ties.ensures) c.add_links.ensures.ok
