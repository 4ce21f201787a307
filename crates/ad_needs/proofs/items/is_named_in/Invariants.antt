use Rattle.std.proofs.Common.{◌≡◌, drop}
use Rattle.std.specs.List.{list_any}
use Rattle.ad_needs_rules.specs.Modifying.{is_item_of}
use Rattle.ad_needs.proofs.items.is_named_in.Given as goal

-- none so far is of the name
abbrev pub invariant-each : goal.invariant-each
invariant-each l = list_any (is_item_of l.name) (drop l.item-index l.items) ≡ list_any (is_item_of l.name) l.items
