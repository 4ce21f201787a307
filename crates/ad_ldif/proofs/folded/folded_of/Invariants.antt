use Rattle.std.proofs.Common.{◌≤◌, ◌+◌, length}
use Rattle.ad_ldif.specs.Lines.{physical}
use Rattle.ad_ldif.specs.Folds.{Adds}
use Rattle.ad_ldif.proofs.folded.folded_of.Given as goal

abbrev pub invariant-lines : goal.invariant-lines
invariant-lines l = record {
  adds : Adds (physical l.raw) l.tail.items l.count (physical l.rest);
  few : l.count + length l.rest ≤ length l.raw;
}

abbrev pub decreases-lines : goal.decreases-lines
decreases-lines l = length l.rest
