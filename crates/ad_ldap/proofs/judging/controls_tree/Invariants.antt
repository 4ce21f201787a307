use Rattle.std.proofs.Common.{◌≡◌, drop}
use Rattle.ad_ldap.specs.MessageValue.{op_seen}
use Rattle.ad_ldap.specs.Settings.{tree_among}
use Rattle.ad_ldap.proofs.judging.controls_tree.Given as goal

-- what the others ask for is what all do
abbrev pub invariant-each : goal.invariant-each
invariant-each l = tree_among (op_seen l.op) (drop l.control-index l.controls) ≡ tree_among (op_seen l.op) l.controls
