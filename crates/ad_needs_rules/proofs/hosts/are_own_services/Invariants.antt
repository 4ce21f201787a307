use Rattle.std.proofs.Common.{◌≡◌, false, drop}
use Rattle.std.specs.List.{list_all}
use Rattle.std.specs.Option.{option_map_or}
use Rattle.ad_needs_rules.specs.Validated.{host_in, is_own_host}
use Rattle.ad_needs_rules.proofs.hosts.are_own_services.Given as goal

-- all are where the others are
abbrev pub invariant-each : goal.invariant-each
invariant-each l =
    list_all (λ value. option_map_or (is_own_host l.dir l.number) (host_in value) false) (drop l.value-index l.values)
    ≡ list_all (λ value. option_map_or (is_own_host l.dir l.number) (host_in value) false) l.values
