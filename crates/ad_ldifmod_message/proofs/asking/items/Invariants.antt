use Rattle.std.proofs.Common.{◌≡◌, map, take}
use Rattle.ad_ldifmod_message.specs.Asked.{item_asked}
use Rattle.ad_ldifmod_message.proofs.asking.items.Given as goal

abbrev pub invariant-each : goal.invariant-each
invariant-each l = l.asked ≡ map item_asked (take l.one-index l.items)
