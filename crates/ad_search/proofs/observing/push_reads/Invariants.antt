use Rattle.std.proofs.Common.{◌≡◌, ◌++◌, drop}
use Rattle.ad_types.specs.Tried.{tried_values}
use Rattle.ad_search.specs.ReadSteps.{reads_at_each}
use Rattle.ad_search.proofs.observing.push_reads.Given as goal

-- those so far and those that are left are all
abbrev pub invariant-each : goal.invariant-each
invariant-each l =
    tried_values l.into.items ++ reads_at_each l.dir l.number (drop l.place-index l.places)
    ≡ tried_values l.fn.into.items ++ reads_at_each l.dir l.number l.places
