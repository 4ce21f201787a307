use Rattle.std.proofs.Common.{refl}
use Rattle.ad_principals.proofs.TokenLaws.{same_token, same_directory}
use Rattle.ad_principals.proofs.laws.a_principal_has_one_token.Goals as goal

pub returns : goal.returns
returns c = λ dir number extra a b. same_token dir dir number extra extra a b (same_directory dir)
    (same_directory dir) (λ s. refl)
