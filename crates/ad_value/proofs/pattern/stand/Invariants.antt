use Rattle.std.proofs.Common.{◌↔◌, drop}
use Rattle.ad_value.specs.Pieces.{Stand}
use Rattle.ad_value.proofs.pattern.stand.Given as goal

-- what is left has the pieces that are left where the text has them all
abbrev pub invariant-loop-piece : goal.invariant-loop-piece
invariant-loop-piece l = Stand l.pieces l.text ↔ Stand (drop l.piece-index l.pieces) l.rest
