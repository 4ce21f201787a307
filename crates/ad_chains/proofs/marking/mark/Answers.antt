use Rattle.std.proofs.Common.{sym, ◌∙◌}
use Rattle.ad_chains.specs.Chain.{link_at}
use Rattle.ad_chains.proofs.Marked.{mark_done, mark_none, not_marked, is_marked}
use Rattle.ad_chains.proofs.marking.mark.Goals as goal

pub returns-then-is_some : goal.returns-then-is_some
returns-then-is_some c =
    let found = is_marked (link_at c.args.links.now c.args.node) (sym c.is_some.ensures ∙ c.if-is_some.true) in
    mark_none c.args.links.now c.args.list.now.items c.args.node c.args.link found.0 found.1

pub returns : goal.returns
returns c = mark_done c.args.links.now c.args.list.now.items c.push.new.self.items c.args.node c.args.link
    c.requires (not_marked (link_at c.args.links.now c.args.node) (sym c.is_some.ensures ∙ c.if-is_some.false))
    c.in_ok-push.ensures.items
