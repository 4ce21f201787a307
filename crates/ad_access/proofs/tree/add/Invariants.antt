use Rattle.std.proofs.Common.{ℕ}
use Rattle.std.specs.Prelude.{bit_or}
use Rattle.ad_access.proofs.InPlace.{InPlace}
use Rattle.ad_access.proofs.tree.add.Given as goal

abbrev pub invariant-loop-i : goal.invariant-loop-i
invariant-loop-i l = InPlace (λ (place n : ℕ). bit_or n l.more) l.fn.rights l.rights l.i
