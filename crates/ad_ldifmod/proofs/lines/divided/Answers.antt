use Rattle.std.proofs.Common.{sym}
use Rattle.ad_ldifmod.proofs.Dividing.{divided_at, divided_nowhere}
use Rattle.ad_ldifmod.proofs.lines.divided.Goals as goal

pub returns-in-Some : goal.returns-in-Some
returns-in-Some c = divided_at c.args.byte c.in-Some.at c.args.bytes.now (sym c.in-Some.ensures.place)

pub returns-in-None : goal.returns-in-None
returns-in-None c = divided_nowhere c.args.byte 0 c.args.bytes.now (sym c.in-None.ensures.place)
