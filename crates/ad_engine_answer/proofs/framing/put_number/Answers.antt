use Rattle.std.proofs.Common.{◌++◌, ap, ◌∙◌, take, drop, arith}
use Rattle.ad_ber.proofs.Shortest.{low_part}
use Rattle.ad_engine_answer.proofs.framing.put_number.Goals as goal

pub returns : goal.returns
returns c =
    c.in_ok-extend_from_slice.ensures.items
    ∙ ap (λ bs. c.args.into.now.items ++ take 4 (drop 4 bs)) c.to_be_bytes-bytes.ensures
    ∙ ap (λ bs. c.args.into.now.items ++ bs) (low_part 4 c.args.number (omega arith))
