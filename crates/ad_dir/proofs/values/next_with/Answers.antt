use Rattle.std.proofs.Common.{ℕ, ◌<◌, sym, subst}
use Rattle.ad_dir_links.specs.Counted.{counted}
use Rattle.ad_dir.proofs.HolderLaws.{next_marked, next_behind}
use Rattle.ad_dir.proofs.values.next_with.Goals as goal

pub returns-then-is_counted : goal.returns-then-is_counted
returns-then-is_counted c = λ objects stand all.
    next_marked c.args.schema.now c.args.indexed.now c.args.links.now.entries objects c.args.attr.0 c.args.key.now
    c.args.above c.next_holder.result stand all (c.is_counted.ensures c.if-is_counted.true)
    c.next_holder.ensures.above
    (λ holder small more some. c.next_holder.ensures.least holder small more
    (subst (λ (m : ℕ). 0 < counted c.args.links.now.entries m holder) (sym c.mark.ensures) some))

pub returns : goal.returns
returns c = λ objects stand all.
    next_behind c.args.schema.now objects c.args.attr.0 c.args.key.now c.args.above c.behind.result stand
    c.behind.ensures.above c.behind.ensures.least
