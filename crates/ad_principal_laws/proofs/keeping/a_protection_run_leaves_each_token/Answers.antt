use Rattle.ad_principal_laws.proofs.Protecting.{run_agrees}
use Rattle.ad_principal_laws.proofs.keeping.a_protection_run_leaves_each_token.Goals as goal

pub returns : goal.returns
returns c = run_agrees
