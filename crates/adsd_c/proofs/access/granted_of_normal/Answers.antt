use Rattle.std.proofs.Common.{refl, ◌∙◌}
use Rattle.ad_sd.specs.Seen.{seen}
use Rattle.ad_types.specs.Path.{guids_of}
use Rattle.adsd_c.specs.Access.{normal_question}
use Rattle.adsd_c.specs.CallerSeen.{asker_seen}
use Rattle.adsd_c.proofs.access.granted_of_normal.Goals as goal

pub returns : goal.returns
unfolding normal_question
returns c = (
  record { sd = seen c.in_ok-view.view; asker = asker_seen c.in_ok-caller.caller; path = guids_of c.in_ok-path.path },
  rw (c.in_ok-view.ensures, c.in_ok-caller.ensures, c.in_ok-path.ensures) refl,
  λ bit small. c.granted.ensures bit small ∙ rw c.as_ref.ensures.value refl,
)
