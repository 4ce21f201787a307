use Rattle.std.proofs.Common.{◌+◌, ◌*◌, length}
use Rattle.ad_ldap.specs.FilterValue.{filters_seen}
use Rattle.ad_ldap.specs.Reading.{each_of}
use Rattle.ad_ldap.specs.FilterReading.{filter_at}
use Rattle.ad_ldap.proofs.Each.{IsReading}
use Rattle.ad_ldap.proofs.filter_reading.+reading.Given as goal

-- A filter has fewer levels below it at each inner filter; between two of them lie three calls.
abbrev pub decreases-filter : goal.decreases-filter
decreases-filter l = 4 * l.levels

abbrev pub decreases-filter_of_kind : goal.decreases-filter_of_kind
decreases-filter_of_kind l = 4 * l.levels + 3

abbrev pub decreases-filters_inside : goal.decreases-filters_inside
decreases-filters_inside l = 4 * l.levels + 2

abbrev pub decreases-alone_inside : goal.decreases-alone_inside
decreases-alone_inside l = 4 * l.levels + 2

abbrev pub decreases-filters : goal.decreases-filters
decreases-filters l = 4 * l.levels + 1

abbrev pub decreases-alone : goal.decreases-alone
decreases-alone l = 4 * l.levels + 1

abbrev pub invariant-filters-each : goal.invariant-filters-each
invariant-filters-each l = IsReading (filter_at l.levels l.end) (filters_seen l.filters) l.input
    (each_of (filter_at l.levels) l.end l.fn.input)

abbrev pub decreases-filters-each : goal.decreases-filters-each
decreases-filters-each l = length l.input
