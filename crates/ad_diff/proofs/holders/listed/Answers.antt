use Rattle.std.proofs.Common.{◌∙◌, ℕ, [], Option, ap}
use Rattle.std.specs.Option.{option_map_or}
use Rattle.std.specs.Global.{Vec}
use Rattle.ad_diff.proofs.holders.listed.Goals as goal

pub returns-in-Some : goal.returns-in-Some
returns-in-Some c = c.as_slice.ensures.value
    ∙ ap (λ (found : Option (Vec ℕ)). option_map_or (λ (places : Vec ℕ). places.items) found []) c.in-Some.ensures.value

pub returns-in-None : goal.returns-in-None
returns-in-None c =
    ap (λ (found : Option (Vec ℕ)). option_map_or (λ (places : Vec ℕ). places.items) found []) c.in-None.ensures.value
