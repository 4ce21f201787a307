use Rattle.ad_gen.specs.Frames.{changing}
use Rattle.ad_bytes.proofs.Appended.{then}
use Rattle.ad_gen.proofs.stream.put_changing.Goals as goal

pub returns : goal.returns
unfolding changing
returns c = then c.in_ok-put_administrator_frame.ensures
    (then c.in_ok-put_modify_frame.ensures
    (then c.in_ok-put_steps_frame.ensures (then c.in_ok-put_frame.ensures c.in_ok-put_steps_frame-2.ensures)))
