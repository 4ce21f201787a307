use Rattle.std.proofs.Common.{◌≡◌, ◌++◌, take}
use Rattle.ad_dir.proofs.names.push_copies.Given as goal

-- the parts so far
abbrev pub invariant-loop-rdn : goal.invariant-loop-rdn
invariant-loop-rdn l = l.into ≡ l.initial.into ++ take l.rdn-index l.rdns
