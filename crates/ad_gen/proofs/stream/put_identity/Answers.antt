use Rattle.ad_gen.specs.Frames.{identity}
use Rattle.ad_bytes.proofs.Appended.{then}
use Rattle.ad_gen.proofs.stream.put_identity.Goals as goal

pub returns : goal.returns
unfolding identity
returns c = then c.in_ok-put_bytes.ensures
    (then c.in_ok-put_sid.ensures (then c.in_ok-put_sid-2.ensures c.in_ok-put_sid-3.ensures))
