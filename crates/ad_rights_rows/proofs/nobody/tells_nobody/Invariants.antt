use Rattle.std.proofs.Common.{◌≡◌, ◌<◌, ℕ, false, length}
use Rattle.ad_sets.specs.Told.{stands_in, signed}
use Rattle.ad_rights_rows.proofs.nobody.tells_nobody.Given as goal

-- nobody so far
abbrev pub invariant-loop-member : goal.invariant-loop-member
invariant-loop-member l = (q : ℕ) → q < l.member → q < length l.set → signed l.sign l.own q (stands_in l.set q) ≡ false
