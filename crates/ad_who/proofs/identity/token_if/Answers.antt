use Rattle.ad_who.proofs.Parties.{token_alone}
use Rattle.ad_who.proofs.identity.token_if.Goals as goal

pub returns-in-Ok-clause-alone : goal.returns-in-Ok-clause-alone
returns-in-Ok-clause-alone c =
    token_alone c.args.dir.now c.args.identity.now.sid c.args.identity.now.number c.in-Ok.token c.in-Ok.ensures.token
