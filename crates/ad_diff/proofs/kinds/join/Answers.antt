use Rattle.std.proofs.Common.{sym}
use Rattle.ad_diff.proofs.Contexts.{kinds_more}
use Rattle.ad_diff.proofs.kinds.join.Goals as goal

pub returns-clause-kinds : goal.returns-clause-kinds
returns-clause-kinds c = kinds_more c.args.named.now c.args.parties.now c.args.kinds.now.firsts.items
    c.kind_of.new.firsts.items c.args.kinds.now.of.items c.push.new.self.items c.args.place c.in_ok-kind.kind
    c.in_ok-kind.ensures c.requires.kinds (sym c.requires.count) c.in_ok-push.ensures.items
