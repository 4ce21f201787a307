use Rattle.std.proofs.Common.{[], take}
use Rattle.ad_ldap.specs.Again.{AreNew}
use Rattle.ad_ldap.proofs.again.among_few.Given as goal

-- none so far stands again
abbrev pub invariant-each : goal.invariant-each
invariant-each l = AreNew [] (take l.i l.controls)
