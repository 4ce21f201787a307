use Rattle.ad_gen.specs.Frames.{administrator}
use Rattle.ad_bytes.proofs.Appended.{then}
use Rattle.ad_gen.proofs.stream.put_administrator.Goals as goal

pub returns : goal.returns
unfolding administrator
returns c = then (rw c.builtin_administrators-sid.ensures at c.in_ok-put_identity.ensures) c.in_ok-put_bytes.ensures
