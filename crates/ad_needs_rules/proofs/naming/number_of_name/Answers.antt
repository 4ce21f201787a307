use Rattle.ad_needs_rules.proofs.naming.number_of_name.Goals as goal

pub returns-in-Some-clause-live : goal.returns-in-Some-clause-live
returns-in-Some-clause-live c = c.find.ensures.live
