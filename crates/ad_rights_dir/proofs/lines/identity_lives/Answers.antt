use Rattle.std.proofs.Common.{ℕ, Option, subst}
use Rattle.ad_principals.proofs.Identified.{live_by_sid}
use Rattle.ad_identities.specs.Identities.{IsIdentityBy}
use Rattle.ad_rights_dir.proofs.lines.identity_lives.Goals as goal

pub returns : goal.returns
returns c =
    let dir = c.args.dir.now in
    let identity = c.args.identity.now in
    live_by_sid dir c.args.number identity.sid
    (subst (λ (o : Option ℕ). IsIdentityBy dir identity.sid o) c.requires.number c.requires.identity).1
