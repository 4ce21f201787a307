use Rattle.ad_protect.proofs.Sets.{takes_key}
use Rattle.ad_control_placed.proofs.places.take.Goals as goal

pub returns : goal.returns
returns c = takes_key c.args.into.now.keys c.insert.new.self.keys c.args.number c.in_ok-insert.ensures.keys
