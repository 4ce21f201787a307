use Rattle.std.proofs.Common.{refl, ◌∙◌}
use Rattle.ad_types.specs.Path.{guids_of}
use Rattle.adsd_c.specs.Access.{question_of}
use Rattle.adsd_c.specs.CallerSeen.{asker_seen}
use Rattle.adsd_c.proofs.access.granted_of.Goals as goal

pub returns : goal.returns
unfolding question_of
returns c = (
  record { sd = c.in_ok-kept.kept; asker = asker_seen c.in_ok-caller.caller; path = guids_of c.in_ok-path.path },
  rw (c.in_ok-kept.ensures, c.in_ok-caller.ensures, c.in_ok-path.ensures) refl,
  λ bit small. c.granted.ensures bit small ∙ rw (c.view.ensures, c.as_ref.ensures.value) refl,
)
