use Rattle.std.proofs.Common.{◌-◌}
use Rattle.ad_ldap.specs.MessageValue.{search_seen}
use Rattle.ad_search.proofs.IndexLaws.{IsUpTo}
use Rattle.ad_search.proofs.candidates.found_by.Given as goal

-- those up to a number
abbrev pub invariant-each : goal.invariant-each
invariant-each l = IsUpTo l.dir (search_seen l.search).filter l.above l.left.items

abbrev pub decreases-each : goal.decreases-each
decreases-each l = l.most - l.rounds
