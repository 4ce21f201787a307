use Rattle.std.proofs.Common.{[], take}
use Rattle.ad_ldap.specs.Again.{AreNew, AreSeen}
use Rattle.ad_ldap.proofs.again.among_many.Given as goal

-- none so far stands again, and the digests of all so far are kept
abbrev pub invariant-each : goal.invariant-each
invariant-each l = record {
  new : AreNew [] (take l.i l.controls);
  seen : AreSeen l.seen (take l.i l.controls);
}
