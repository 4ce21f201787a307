use Rattle.std.proofs.Common.{◌≡◌, ◌++◌, length, take}
use Rattle.ad_ldap.specs.Reply.{values_bytes}
use Rattle.ad_ldap.proofs.reply_writing.values_len.Given as goal

-- those so far
abbrev pub invariant-each : goal.invariant-each
invariant-each l = l.sum ≡ length (values_bytes (take l.value-index l.values))
