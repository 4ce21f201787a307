use Rattle.std.proofs.Common.{◌≡◌, map, drop}
use Rattle.std.specs.List.{list_all}
use Rattle.ad_needs_rules.specs.OwnWrites.{is_valid}
use Rattle.ad_needs_rules.proofs.validated.all_valid.Given as goal

-- all are valid where the others are
abbrev pub invariant-each : goal.invariant-each
invariant-each l =
    list_all (is_valid l.dir l.token l.number l.write) (map (λ item. item.now) (drop l.item-index l.items))
    ≡ list_all (is_valid l.dir l.token l.number l.write) (map (λ item. item.now) l.items)
