use Rattle.std.proofs.Common.{length}
use Rattle.ad_ldap.specs.FilterReading.{middle_of}
use Rattle.ad_ldap.proofs.Each.{IsMiddle}
use Rattle.ad_ldap.proofs.filter_reading.middle.Given as goal

abbrev pub invariant-each : goal.invariant-each
invariant-each l = IsMiddle l.end l.pieces l.input (middle_of l.end l.fn.input)

abbrev pub decreases-each : goal.decreases-each
decreases-each l = length l.input
