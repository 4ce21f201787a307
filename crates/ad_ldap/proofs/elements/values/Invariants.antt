use Rattle.std.proofs.Common.{length}
use Rattle.ad_ldap.specs.Reading.{body_at, values_of}
use Rattle.ad_ldap.proofs.Each.{IsReading}
use Rattle.ad_ldap.proofs.elements.values.Given as goal

abbrev pub invariant-each : goal.invariant-each
invariant-each l = IsReading (body_at 4 l.end) l.values l.input (values_of l.end l.fn.input)

abbrev pub decreases-each : goal.decreases-each
decreases-each l = length l.input
