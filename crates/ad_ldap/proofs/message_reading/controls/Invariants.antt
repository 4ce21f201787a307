use Rattle.std.proofs.Common.{length}
use Rattle.ad_ldap.specs.Reading.{inside_at, each_of}
use Rattle.ad_ldap.specs.MessageReading.{control_of}
use Rattle.ad_ldap.proofs.Each.{IsReading}
use Rattle.ad_ldap.proofs.message_reading.controls.Given as goal

abbrev pub invariant-each : goal.invariant-each
invariant-each l = IsReading (inside_at 48 control_of l.end) l.controls l.input
    (each_of (inside_at 48 control_of) l.end l.fn.input)

abbrev pub decreases-each : goal.decreases-each
decreases-each l = length l.input
