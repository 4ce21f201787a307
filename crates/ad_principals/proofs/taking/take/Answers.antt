use Rattle.ad_principals.proofs.Sets.{takes_key}
use Rattle.ad_principals.proofs.taking.take.Goals as goal

pub returns : goal.returns
returns c = takes_key c.args.taken.now.keys c.insert.new.self.keys c.args.sid c.in_ok-insert.ensures.keys
