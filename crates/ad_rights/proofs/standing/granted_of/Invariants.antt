use Rattle.std.proofs.Common.{◌≡◌, false, map, take}
use Rattle.std.specs.Prelude.{unwrap_or}
use Rattle.ad_rights.proofs.standing.granted_of.Given as goal

-- those so far
abbrev pub invariant-loop-stand : goal.invariant-loop-stand
invariant-loop-stand l = l.set.items ≡ map (λ stand. unwrap_or stand false) (take l.stand-index l.stands)
