use Rattle.std.proofs.Common.{◌∙◌}
use Rattle.ad_load_objects.specs.Objects.{is_sid_used}
use Rattle.ad_load_objects.proofs.index.is_sid_used.Goals as goal

pub returns-in-Some : goal.returns-in-Some
unfolding is_sid_used
returns-in-Some c = rw c.in-Some.is (c.contains.ensures ∙ c.requires.same c.in-Some.sid.now)
