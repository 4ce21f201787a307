use Rattle.std.proofs.Common.{◌≡◌, map, drop}
use Rattle.std.specs.List.{list_any}
use Rattle.ad_dir_objects.specs.Seen.{stored_seen}
use Rattle.ad_needs_rules.specs.Validated.{equals_folded}
use Rattle.ad_needs_rules.specs.OwnWrites.{shown_in}
use Rattle.ad_needs_rules.proofs.hosts.is_shown.Given as goal

-- none so far shows the host
abbrev pub invariant-each : goal.invariant-each
invariant-each l =
    list_any (equals_folded l.host) (shown_in (map stored_seen (drop l.value-index l.stored)))
    ≡ list_any (equals_folded l.host) (shown_in (map stored_seen l.stored))
