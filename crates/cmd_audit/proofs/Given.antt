-- What was tried, against what is to be.
use Rattle.std.proofs.Common.{◌≡◌, ◌∙◌, List, [], Result, Ok, Err, ap}
use Rattle.std.specs.Prelude.{IfOk}
use Rattle.ad_types.specs.declared.tried.Tried.{Tried}
use Rattle.ad_types.specs.Tried.{TriedValue, tried_values}
use Rattle.std.specs.Global.{Vec}

pub tried_as : {E : Type 0} (r : Result (Vec Tried) E) (given wanted : List TriedValue) → given ≡ wanted
    → IfOk r (λ tried. tried_values tried.items ≡ given) → IfOk r (λ tried. tried_values tried.items ≡ wanted)
tried_as (Ok tried) given wanted same is = is ∙ same
tried_as (Err e) given wanted same is = tt

pub tried_none : (tried : Vec Tried) → tried.items ≡ [] → (wanted : List TriedValue) → [] ≡ wanted
    → tried_values tried.items ≡ wanted
tried_none tried none wanted same = ap tried_values none ∙ same
