use Rattle.std.proofs.Common.{◌≡◌, ◌++◌, length, take}
use Rattle.ad_ldap.specs.Reply.{attrs_bytes}
use Rattle.ad_ldap.proofs.reply_writing.attrs_len.Given as goal

-- those so far
abbrev pub invariant-each : goal.invariant-each
invariant-each l = l.sum ≡ length (attrs_bytes (take l.attr-index l.attrs))
