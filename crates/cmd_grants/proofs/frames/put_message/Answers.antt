use Rattle.std.proofs.Common.{ℕ, List, length, ◌≤◌, sym, subst, ◌∙◌}
use Rattle.ad_ldifmod.specs.Messages.{max_message}
use Rattle.cmd_grants.proofs.frames.put_message.Goals as goal

pub put_frame-requires : goal.put_frame-requires
unfolding max_message
put_frame-requires c = subst (λ (body : List ℕ). length body ≤ 1048576)
    (sym (c.deref.ensures.value ∙ c.in_ok-body.ensures.bytes)) c.requires.fits
