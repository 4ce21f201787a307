use Rattle.std.proofs.Common.{◌≡◌, drop}
use Rattle.ad_ldap.specs.MessageValue.{op_seen}
use Rattle.ad_ldap.specs.Settings.{flags_among}
use Rattle.ad_ldap.proofs.judging.controls_flags.Given as goal

-- the flags of the others are those of all
abbrev pub invariant-each : goal.invariant-each
invariant-each l = flags_among (op_seen l.op) (drop l.control-index l.controls) ≡ flags_among (op_seen l.op) l.controls
