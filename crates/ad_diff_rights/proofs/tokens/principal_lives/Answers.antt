use Rattle.ad_principals.proofs.Identified.{principal_live}
use Rattle.ad_diff_rights.proofs.tokens.principal_lives.Goals as goal

pub returns : goal.returns
returns c = principal_live c.args.dir.now c.args.principal c.requires
