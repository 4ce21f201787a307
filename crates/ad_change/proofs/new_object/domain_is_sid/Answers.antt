use Rattle.std.proofs.Common.{subst}
use Rattle.ad_ids.specs.Sid.{IsSid}
use Rattle.ad_change.proofs.AddLaws.{domain_by, no_domain}
use Rattle.ad_change.proofs.new_object.domain_is_sid.Goals as goal

pub returns-in-Some : goal.returns-in-Some
returns-in-Some c = λ sid is. subst IsSid (domain_by c.args.dir.now c.in-Some.sid.now sid c.in-Some.ensures is)
    c.has_its_ranges.ensures

pub returns-in-None : goal.returns-in-None
returns-in-None c = λ sid is. absurd (no_domain c.args.dir.now sid c.in-None.ensures is)
