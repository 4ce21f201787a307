use Rattle.std.proofs.Common.{◌≡◌, ◌+◌, ◌≤◌, length}
use Rattle.ad_ldif.specs.Pieces.{line_ends}
use Rattle.ad_ldif.proofs.pieces.line_ends.Given as goal

-- those so far, and those of the rest
abbrev pub invariant-fronts : goal.invariant-fronts
invariant-fronts l = record {
  rest : l.count + line_ends l.rest ≡ line_ends l.text;
  few : l.count + length l.rest ≤ length l.text;
}

abbrev pub decreases-fronts : goal.decreases-fronts
decreases-fronts l = length l.rest
