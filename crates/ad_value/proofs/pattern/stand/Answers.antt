use Rattle.std.proofs.Common.{sym, arith}
use Rattle.ad_value.proofs.PiecesLaws.{stand_next}
use Rattle.ad_value.proofs.pattern.stand.Goals as goal

pub loop-piece-preserved : goal.loop-piece-preserved
loop-piece-preserved c =
    let leftmost = rw c.as_slice.ensures at c.in-Some.ensures in
    let next = stand_next c.args.pieces.now c.loop-piece.piece-index c.piece-item.result c.loop-piece.rest.now
    c.in-Some.after.now (omega arith) (sym c.piece-item.is) leftmost in
    (λ s. next.0 (c.loop-piece.invariant.0 s), λ s. c.loop-piece.invariant.1 (next.1 s))
