use Rattle.std.proofs.Common.{◌≡◌, drop}
use Rattle.ad_value.specs.Sent.{piece_keys}
use Rattle.ad_value.proofs.SentLaws.{with_rest}
use Rattle.ad_value.proofs.sent.piece_keys.Given as goal

-- the keys so far and those of the pieces that are left are all
abbrev pub invariant-loop-piece : goal.invariant-loop-piece
invariant-loop-piece l = piece_keys l.syntax l.pieces ≡ with_rest l.syntax l.keys (drop l.piece-index l.pieces)
