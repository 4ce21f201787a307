use Rattle.std.proofs.Common.{length, ◌+◌}
use Rattle.std.proofs.lemmas.List.{take_rest}
use Rattle.ad_value.proofs.PiecesLaws.{found_leftmost, found_nowhere}
use Rattle.ad_value.proofs.pattern.after_piece.Goals as goal

pub returns-in-Some : goal.returns-in-Some
returns-in-Some c =
    rw (take_rest c.args.text.now (c.in-Some.offset + length c.args.piece.now))
    (found_leftmost c.args.text.now c.args.piece.now c.in-Some.offset c.in-Some.ensures.1 c.in-Some.ensures.0.before)

pub returns-in-None : goal.returns-in-None
returns-in-None c = found_nowhere c.args.text.now c.args.piece.now c.in-None.ensures
