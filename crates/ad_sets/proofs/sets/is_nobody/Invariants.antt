use Rattle.std.proofs.Common.{◌≡◌, Bool, false, take}
use Rattle.std.specs.List.{list_any}
use Rattle.ad_sets.proofs.sets.is_nobody.Given as goal

-- nobody so far
abbrev pub invariant-loop-there : goal.invariant-loop-there
invariant-loop-there l = list_any (λ (there : Bool). there) (take l.there-index l.set) ≡ false
