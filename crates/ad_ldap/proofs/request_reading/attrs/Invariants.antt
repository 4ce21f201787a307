use Rattle.std.proofs.Common.{length}
use Rattle.ad_ldap.specs.Reading.{inside_at, each_of}
use Rattle.ad_ldap.specs.RequestReading.{new_of}
use Rattle.ad_ldap.proofs.Each.{IsReading}
use Rattle.ad_ldap.proofs.request_reading.attrs.Given as goal

abbrev pub invariant-each : goal.invariant-each
invariant-each l = IsReading (inside_at 48 new_of l.end) l.attrs l.input
    (each_of (inside_at 48 new_of) l.end l.fn.input)

abbrev pub decreases-each : goal.decreases-each
decreases-each l = length l.input
