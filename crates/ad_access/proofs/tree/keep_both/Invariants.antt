use Rattle.std.proofs.Common.{ℕ, get_or}
use Rattle.std.specs.Prelude.{bit_and}
use Rattle.ad_access.proofs.InPlace.{InPlace}
use Rattle.ad_access.proofs.tree.keep_both.Given as goal

abbrev pub invariant-loop-i : goal.invariant-loop-i
invariant-loop-i l = InPlace (λ (place n : ℕ). bit_and n (get_or l.second place 0)) l.fn.first l.first l.i
