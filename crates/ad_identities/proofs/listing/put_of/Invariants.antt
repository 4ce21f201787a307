use Rattle.std.proofs.Common.{◌≡◌, ◌++◌, take}
use Rattle.std.specs.Prelude.{filter_map}
use Rattle.ad_identities.specs.Identities.{identity_at}
use Rattle.ad_identities.proofs.listing.put_of.Given as goal

-- those so far
abbrev pub invariant-loop-number : goal.invariant-loop-number
invariant-loop-number l =
    l.into.items ≡ l.initial.into.items ++ filter_map (identity_at l.dir) (take l.number-index l.numbers)
