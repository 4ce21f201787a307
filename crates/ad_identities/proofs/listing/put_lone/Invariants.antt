use Rattle.std.proofs.Common.{◌≡◌, ◌++◌, take, map}
use Rattle.ad_identities.specs.Identities.{lone}
use Rattle.ad_identities.proofs.listing.put_lone.Given as goal

-- those so far
abbrev pub invariant-loop-sid : goal.invariant-loop-sid
invariant-loop-sid l = l.into.items ≡ l.initial.into.items ++ map lone (take l.sid-index l.sids)
