use Rattle.std.proofs.Common.{◌≡◌, ◌++◌, drop}
use Rattle.ad_entries.specs.Places.{shown_at_each}
use Rattle.ad_entries.proofs.entry.attrs_shown.Given as goal

-- those so far and those that are left are all
abbrev pub invariant-each : goal.invariant-each
invariant-each l = l.attrs ++ shown_at_each l.dir l.number l.types_only (drop l.place-index l.places)
    ≡ shown_at_each l.dir l.number l.types_only l.places
