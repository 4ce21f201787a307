use Rattle.ad_gen.specs.Frames.{user_token}
use Rattle.ad_bytes.proofs.Appended.{then}
use Rattle.ad_gen.proofs.stream.put_user_token.Goals as goal

pub returns : goal.returns
unfolding user_token
returns c =
    then (rw (c.in_domain.ensures, c.in_domain-2.ensures) at c.in_ok-put_identity.ensures)
    (then c.in_ok-put_bytes.ensures (then (rw c.well_known.ensures at c.in_ok-put_sid.ensures)
    (rw c.well_known-2.ensures at c.in_ok-put_sid-2.ensures)))
