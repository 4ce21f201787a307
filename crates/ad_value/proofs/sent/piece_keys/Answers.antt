use Rattle.std.proofs.Common.{sym, ap, ◌∙◌, arith}
use Rattle.std.proofs.lemmas.Result.{err_from_is_err_and}
use Rattle.ad_value.specs.Sent.{piece_key}
use Rattle.ad_value.proofs.SentLaws.{next_read, next_fails, none_left}
use Rattle.ad_value.proofs.sent.piece_keys.Goals as goal

pub returns-in_err-piece_key : goal.returns-in_err-piece_key
returns-in_err-piece_key c =
    let p = err_from_is_err_and c.from_residual.result c.from_residual.ensures.1 in
    rw (p.1, p.2) (λ m.
    c.loop-piece.invariant
    ∙ next_fails c.args.syntax c.loop-piece.keys c.args.pieces.now c.loop-piece.piece-index c.piece-item.result
    c.in_err-piece_key.field-0.0 (omega arith) (sym c.piece-item.is)
    (ap (piece_key c.args.syntax) (sym c.as_slice.ensures) ∙ c.in_err-piece_key.ensures m))

pub loop-piece-preserved : goal.loop-piece-preserved
loop-piece-preserved c =
    rw c.in_ok-push.ensures.ok
    (c.loop-piece.invariant
    ∙ next_read c.args.syntax c.loop-piece.keys c.args.pieces.now c.loop-piece.piece-index c.piece-item.result
    c.in_ok-piece_key.field-0 (omega arith) (sym c.piece-item.is)
    (ap (piece_key c.args.syntax) (sym c.as_slice.ensures) ∙ c.in_ok-piece_key.ensures))

pub returns : goal.returns
returns c = c.loop-piece.invariant ∙ none_left c.args.syntax c.loop-piece.keys c.args.pieces.now
    c.loop-piece.piece-index (omega arith)
