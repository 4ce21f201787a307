use Rattle.std.proofs.Common.{◌∙◌, subst}
use Rattle.std.proofs.lemmas.Option.{none-some, same_Some}
use Rattle.ad_ids.specs.Sid.{IsSid}
use Rattle.ad_dir_model.specs.Identity.{domain_sid}
use Rattle.ad_engine_answer.proofs.ranges.domain_has_form.Goals as goal

pub returns-in-Some : goal.returns-in-Some
unfolding domain_sid
returns-in-Some c = λ sid is. subst IsSid (same_Some c.in-Some.sid.now sid (c.in-Some.ensures ∙ is))
    c.has_its_ranges.ensures

pub returns-in-None : goal.returns-in-None
unfolding domain_sid
returns-in-None c = λ sid is. absurd (none-some sid (c.in-None.ensures ∙ is))
