use Rattle.std.proofs.Common.{◌≡◌, take}
use Rattle.std.specs.Prelude.{filter}
use Rattle.ad_principals.specs.Groups.{is_principal}
use Rattle.ad_principals.proofs.listing.those_of.Given as goal

-- those of the numbers so far
abbrev pub invariant-loop-number : goal.invariant-loop-number
invariant-loop-number l = l.those.items ≡ filter (is_principal l.dir) (take l.number-index l.numbers)
