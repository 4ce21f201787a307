use Rattle.std.proofs.Common.{◌≡◌, ◌∙◌, ◌<◌, ℕ, false, length, subst, arith}
use Rattle.std.specs.Prelude.{slice_index}
use Rattle.std.proofs.lemmas.List.{get_or_default}
use Rattle.ad_chains.specs.Work.{IsInto, Marks}
use Rattle.ad_chains.proofs.Levelling.{close_more}
use Rattle.ad_chains.proofs.level.close.Goals as goal

pub loop-at-preserved : goal.loop-at-preserved
loop-at-preserved c =
    let l = c.loop-at in
    let here : l.at < length l.frontier.items = omega arith in
    let node : c.index-node.result.now ≡ slice_index l.frontier.items l.at
    = c.index-node.ensures ∙ get_or_default l.frontier.items l.at c.index-node.result.now 0 here in
    let marks : Marks (IsInto c.args.edges.now (slice_index l.frontier.items l.at) false c.args.level) l.links
    l.frontier.items c.mark_into.new.links c.mark_into.new.list.items
    = subst (λ (k : ℕ). Marks (IsInto c.args.edges.now k false c.args.level) l.links l.frontier.items
    c.mark_into.new.links c.mark_into.new.list.items) node c.in_ok-mark_into.ensures in
    record {
      long = marks.long ∙ l.invariant.long;
      as_many = marks.fewer ∙ l.invariant.as_many;
      grows = omega (arith, marks.grows, l.invariant.grows);
      within = omega (arith, marks.grows, here);
      levels = λ end begun.
          let so_far = l.invariant.levels end begun in
          close_more c.args.edges.now end l.links c.mark_into.new.links l.frontier.items c.mark_into.new.list.items
          c.args.level l.at here so_far.0 so_far.1 marks;
    }
