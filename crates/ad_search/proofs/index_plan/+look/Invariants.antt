use Rattle.std.proofs.Common.{drop}
use Rattle.ad_search.specs.Needed.{HasMet}
use Rattle.ad_search.proofs.index_plan.+look.Given as goal

-- where one is met, one that is left is
abbrev pub invariant-may_meet_one-each : goal.invariant-may_meet_one-each
invariant-may_meet_one-each l = HasMet l.dir l.number l.plans → HasMet l.dir l.number (drop l.plan-index l.plans)

abbrev pub invariant-may_meet_all-each : goal.invariant-may_meet_all-each
invariant-may_meet_all-each l = Unit {0}
