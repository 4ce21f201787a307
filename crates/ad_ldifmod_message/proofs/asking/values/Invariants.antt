use Rattle.std.proofs.Common.{◌≡◌, take}
use Rattle.ad_ldifmod_message.proofs.asking.values.Given as goal

abbrev pub invariant-each : goal.invariant-each
invariant-each l = l.copies ≡ take l.value-index l.values
