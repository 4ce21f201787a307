use Rattle.std.proofs.Common.{◌≡◌, drop}
use Rattle.std.specs.List.{flat_map}
use Rattle.ad_needs_rules.specs.Modifying.{item_checks}
use Rattle.ad_needs_rules.specs.Judged.{refusal_of}
use Rattle.ad_needs.proofs.item_checks.items_refusal.Given as goal

-- none so far fails
abbrev pub invariant-each : goal.invariant-each
invariant-each l =
    refusal_of (flat_map (item_checks l.dir l.number l.decoded.flags l.decoded.items.now) (drop l.i l.decoded.items.now))
    ≡ refusal_of (flat_map (item_checks l.dir l.number l.decoded.flags l.decoded.items.now) l.decoded.items.now)
