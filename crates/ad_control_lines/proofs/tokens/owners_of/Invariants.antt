use Rattle.std.proofs.Common.{◌≡◌, length}
use Rattle.ad_control_lines.specs.Tables.{AreOwners}
use Rattle.ad_control_lines.proofs.tokens.owners_of.Given as goal

-- the tokens so far
abbrev pub invariant-loop-place : goal.invariant-loop-place
invariant-loop-place l = record {
  long : length l.owners.items ≡ l.count;
  owners : AreOwners l.at l.place l.owners.items;
}
