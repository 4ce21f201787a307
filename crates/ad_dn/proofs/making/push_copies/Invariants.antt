use Rattle.std.proofs.Common.{◌≡◌, ◌++◌, take}
use Rattle.ad_dn.proofs.making.push_copies.Given as goal

-- the parts so far
abbrev pub invariant-loop-rdn : goal.invariant-loop-rdn
invariant-loop-rdn l = l.into.items ≡ l.initial.into.items ++ take l.rdn-index l.rdns
