use Rattle.ad_who.proofs.Parties.{found_is}
use Rattle.ad_who.proofs.tokens.identity_asked.Goals as goal

pub returns-in-Ok-clause-known : goal.returns-in-Ok-clause-known
returns-in-Ok-clause-known c = found_is c.args.dir.now c.args.name.now c.in-Ok.found c.in-Ok.ensures
