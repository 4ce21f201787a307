use Rattle.std.proofs.Common.{◌≡◌, ◌++◌, drop}
use Rattle.ad_dn.specs.NameKey.{closed}
use Rattle.ad_dn.proofs.name_key.push_closed.Given as goal

abbrev pub invariant-loop-byte : goal.invariant-loop-byte
invariant-loop-byte l = l.key.items ++ closed (drop l.byte-index l.value) ≡ l.initial.key.items ++ closed l.value
