use Rattle.std.proofs.Common.{sym}
use Rattle.ad_policies.proofs.Cutting.{cut_at, cut_nowhere}
use Rattle.ad_policies.proofs.links.cut.Goals as goal

pub returns-in-Some : goal.returns-in-Some
returns-in-Some c = cut_at c.args.byte c.in-Some.at c.args.text.now (sym c.in-Some.ensures.place)

pub returns-in-None : goal.returns-in-None
returns-in-None c = cut_nowhere c.args.byte 0 c.args.text.now (sym c.in-None.ensures.place)
