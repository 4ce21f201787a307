use Rattle.std.proofs.Common.{◌≡◌, take, map}
use Rattle.ad_causes.specs.Extra.{texts}
use Rattle.ad_causes.specs.Schema.{record_key}
use Rattle.ad_causes.proofs.records.record_keys.Given as goal

-- those so far
abbrev pub invariant-loop-record : goal.invariant-loop-record
invariant-loop-record l =
    texts l.all.items ≡ map record_key (take l.record-index l.records)
