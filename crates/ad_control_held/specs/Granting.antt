-- Only for private contracts, invariants and proofs: who is granted one of the first so many rights.
use Rattle.std.specs.Prelude.{ℕ, Bool, Option, List, [], map}
use Rattle.ad_ids.specs.SidValue.{SidValue}
use Rattle.ad_ids.specs.declared.token.Token.{Token}
use Rattle.ad_sd.specs.declared.parts.Sd.{Sd}
use Rattle.ad_access.specs.Grant.{granted}
use Rattle.ad_control.specs.Edges.{any_below}

unfoldable pub any_set : Sd → List Token → Option SidValue → ℕ → List Bool
any_set sd tokens self count =
    map (λ token. any_below (granted sd.owner sd.dacl.entries token self []) count) tokens
