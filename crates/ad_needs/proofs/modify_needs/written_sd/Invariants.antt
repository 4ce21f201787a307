use Rattle.std.proofs.Common.{◌≡◌, drop}
use Rattle.std.specs.Prelude.{find}
use Rattle.ad_needs_rules.specs.Requests.{is_descriptor}
use Rattle.ad_needs.proofs.modify_needs.written_sd.Given as goal

-- none so far is of the descriptor
abbrev pub invariant-each : goal.invariant-each
invariant-each l = find (λ item. is_descriptor item.attr) (drop l.item-index l.items)
    ≡ find (λ item. is_descriptor item.attr) l.items
