use Rattle.std.proofs.Common.{◌≡◌, take}
use Rattle.std.specs.Prelude.{filter}
use Rattle.ad_protect.specs.Spreading.{is_protected}
use Rattle.ad_protect.proofs.listing.those_protected.Given as goal

-- those of the numbers so far
abbrev pub invariant-loop-number : goal.invariant-loop-number
invariant-loop-number l = l.those.items ≡ filter (is_protected l.dir l.taken.keys) (take l.number-index l.numbers)
