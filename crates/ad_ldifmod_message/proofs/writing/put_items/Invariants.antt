use Rattle.std.proofs.Common.{◌≡◌, ◌++◌, take}
use Rattle.std.specs.List.{flat_map}
use Rattle.ad_ldifmod_message.specs.Written.{item_bytes}
use Rattle.ad_ldifmod_message.proofs.writing.put_items.Given as goal

-- those so far
abbrev pub invariant-each : goal.invariant-each
invariant-each l = l.into.items ≡ l.initial.into.items ++ flat_map item_bytes (take l.item-index l.items)
