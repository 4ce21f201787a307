use Rattle.ad_principals.proofs.Live.{given_live}
use Rattle.ad_principals.proofs.named.principal_named.Goals as goal

pub returns-clause-live : goal.returns-clause-live
returns-clause-live c = given_live c.args.dir.now c.args.name.now c.object_named.result c.invariants.ensures
    c.object_named.ensures
