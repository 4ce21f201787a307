use Rattle.std.proofs.Common.{◌≡◌, ◌+◌, ◌≤◌, drop}
use Rattle.ad_ldif.specs.Pieces.{line_ends}
use Rattle.ad_ldif.proofs.pieces.ends_in_block.Given as goal

-- those so far, and those of the rest
abbrev pub invariant-loop-byte : goal.invariant-loop-byte
invariant-loop-byte l = record {
  rest : l.count + line_ends (drop l.byte-index l.block) ≡ line_ends l.block;
  few : l.count ≤ l.byte-index;
}
