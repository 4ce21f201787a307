use Rattle.ad_ldifmod.proofs.Dividing.{first_ended, last_line}
use Rattle.ad_ldifmod.proofs.lines.first_line.Goals as goal

pub returns-in-Some : goal.returns-in-Some
returns-in-Some c = first_ended c.args.text.now c.in-Some.line.now c.in-Some.behind.now c.in-Some.ensures

pub returns-in-None : goal.returns-in-None
returns-in-None c = last_line c.args.text.now c.requires c.in-None.ensures
