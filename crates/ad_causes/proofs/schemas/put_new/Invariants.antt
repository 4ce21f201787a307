use Rattle.std.proofs.Common.{◌≡◌, ◌++◌, take}
use Rattle.std.specs.List.{flat_map}
use Rattle.ad_causes.specs.Extra.{texts}
use Rattle.ad_causes.specs.Steps.{new_line}
use Rattle.ad_causes.proofs.schemas.put_new.Given as goal

-- the lines so far
abbrev pub invariant-loop-record : goal.invariant-loop-record
invariant-loop-record l =
    l.into.items ≡ l.fn.into.items ++ flat_map (new_line (texts l.all)) (take l.record-index l.records)
