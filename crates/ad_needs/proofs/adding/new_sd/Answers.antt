use Rattle.std.proofs.Common.{◌≡◌, ℕ, List, Option, IfOk, subst, ap}
use Rattle.std.specs.Option.{option_map, option_and_then}
use Rattle.ad_needs_rules.specs.Descriptors.{sd_in_one, asked_parts}
use Rattle.ad_needs.proofs.adding.new_sd.Goals as goal

pub returns-in-Some : goal.returns-in-Some
returns-in-Some c =
    subst (λ (s : Option (List (List ℕ))). IfOk c.asked_in.result
    (λ sd. sd ≡ option_map (asked_parts c.args.flags) (option_and_then sd_in_one s)))
    (rw c.in-Some.is at c.sent.ensures) c.asked_in.ensures

pub returns-in-None : goal.returns-in-None
returns-in-None c = ap (λ (s : Option (List (List ℕ))). option_map (asked_parts c.args.flags)
    (option_and_then sd_in_one s)) (rw c.in-None.is at c.sent.ensures)
