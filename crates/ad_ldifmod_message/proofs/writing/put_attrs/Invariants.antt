use Rattle.std.proofs.Common.{◌≡◌, ◌++◌, take}
use Rattle.ad_ldap.specs.Reply.{attrs_bytes}
use Rattle.ad_ldifmod_message.proofs.writing.put_attrs.Given as goal

-- those so far
abbrev pub invariant-each : goal.invariant-each
invariant-each l = l.into.items ≡ l.initial.into.items ++ attrs_bytes (take l.attr-index l.attrs)
