use Rattle.ad_gen.specs.Frames.{frame}
use Rattle.ad_bytes.proofs.Appended.{then}
use Rattle.ad_gen.proofs.stream.put_frame.Goals as goal

pub returns : goal.returns
unfolding frame
returns c = then c.in_ok-put_bytes.ensures (then c.in_ok-put_number.ensures c.in_ok-put_bytes-2.ensures)
