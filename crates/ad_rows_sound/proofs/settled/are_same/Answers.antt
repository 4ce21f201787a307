use Rattle.ad_rows_sound.proofs.Finds.{one_descriptor, one_spelling}
use Rattle.ad_rows_sound.proofs.settled.are_same.Goals as goal

pub returns : goal.returns
returns c = (
  λ same. one_descriptor c.no_normal_bytes_begin_others.ensures c.args.one.now c.args.other.now c.as_bytes.result.now
      c.as_bytes-2.result.now c.as_bytes.ensures c.as_bytes-2.ensures (c.same_bytes.ensures.0 same),
  λ same. c.same_bytes.ensures.1 (one_spelling c.args.one.now c.args.other.now c.as_bytes.result.now
      c.as_bytes-2.result.now c.as_bytes.ensures c.as_bytes-2.ensures same),
)
