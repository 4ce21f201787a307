use Rattle.ad_who.proofs.Parties.{live_if}
use Rattle.ad_who.proofs.identity.identity_lives.Goals as goal

pub returns : goal.returns
returns c = live_if c.args.dir.now c.args.identity.now.sid c.args.identity.now.number c.requires
