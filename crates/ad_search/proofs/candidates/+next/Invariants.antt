use Rattle.ad_search.proofs.NextLaws.{IsLeastSoFar, IsGreatestSoFar}
use Rattle.ad_search.proofs.candidates.+next.Given as goal

abbrev pub invariant-next_of_any-each : goal.invariant-next_of_any-each
invariant-next_of_any-each l = IsLeastSoFar l.dir l.plans l.plan-index l.above l.next

abbrev pub invariant-next_of_all-each : goal.invariant-next_of_all-each
invariant-next_of_all-each l = IsGreatestSoFar l.dir l.plans l.above l.next
