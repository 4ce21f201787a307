use Rattle.std.proofs.Common.{◌≡◌, true}
use Rattle.ad_ids.specs.SidValue.{same_sid, same_sid_laws}
use Rattle.ad_principals.proofs.Sets.{takes_key, takes_keep}
use Rattle.ad_diff_rights.proofs.named.name.Goals as goal

pub returns-clause-grows : goal.returns-clause-grows
returns-clause-grows c = λ sid is.
    takes_keep (λ s. same_sid c.args.sid s ≡ true) c.args.named.now.keys c.insert.new.self.keys sid
    (takes_key c.args.named.now.keys c.insert.new.self.keys c.args.sid c.in_ok-insert.ensures.keys) is

pub returns-clause-there : goal.returns-clause-there
returns-clause-there c =
    (takes_key c.args.named.now.keys c.insert.new.self.keys c.args.sid c.in_ok-insert.ensures.keys).all c.args.sid
    (same_sid_laws.refl c.args.sid)
