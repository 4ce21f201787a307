use Rattle.std.proofs.Common.{◌≡◌, drop}
use Rattle.ad_ldap.specs.MessageValue.{op_seen}
use Rattle.ad_ldap.specs.OwnFaults.{first_own}
use Rattle.ad_ldap.proofs.judging.first_own_fault.Given as goal

-- the fault of the others is that of all
abbrev pub invariant-each : goal.invariant-each
invariant-each l = first_own (op_seen l.op) (drop l.control-index l.controls) ≡ first_own (op_seen l.op) l.controls
