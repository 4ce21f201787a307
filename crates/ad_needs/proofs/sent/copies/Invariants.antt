use Rattle.std.proofs.Common.{◌≡◌, take}
use Rattle.ad_needs.proofs.sent.copies.Given as goal

-- those so far
abbrev pub invariant-each : goal.invariant-each
invariant-each l = l.all ≡ take l.value-index l.values
