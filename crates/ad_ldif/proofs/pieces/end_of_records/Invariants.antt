use Rattle.std.proofs.Common.{◌<◌, ◌≤◌, ℕ, take, length}
use Rattle.ad_ldif.specs.Pieces.{EndsRecord}
use Rattle.ad_ldif.proofs.pieces.end_of_records.Given as goal

-- no record ends after the part that is still to be looked through
abbrev pub invariant-lines : goal.invariant-lines
invariant-lines l = record {
  within : l.end ≤ length l.text;
  none : (n : ℕ) → l.end < n → n ≤ length l.text → EndsRecord (take n l.text) → ⊥;
}

abbrev pub decreases-lines : goal.decreases-lines
decreases-lines l = l.end
