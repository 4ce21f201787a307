use Rattle.std.proofs.Common.{◌≡◌, ◌++◌, take}
use Rattle.ad_ldap.specs.Reply.{values_bytes}
use Rattle.ad_ldifmod_message.proofs.writing.put_values.Given as goal

-- those so far
abbrev pub invariant-each : goal.invariant-each
invariant-each l = l.into.items ≡ l.initial.into.items ++ values_bytes (take l.value-index l.values)
