use Rattle.ad_gen.specs.Frames.{whole}
use Rattle.ad_bytes.proofs.Appended.{then}
use Rattle.ad_gen.proofs.stream.put_frames.Goals as goal

pub returns : goal.returns
unfolding whole
returns c = then c.in_ok-put_changing.ensures (then c.in_ok-put_user_frame.ensures c.in_ok-put_search_frame.ensures)
