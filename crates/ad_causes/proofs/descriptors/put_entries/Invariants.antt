use Rattle.std.proofs.Common.{◌≡◌, ◌++◌, take}
use Rattle.ad_causes.specs.Extra.{texts}
use Rattle.ad_causes.specs.Steps.{entries_text}
use Rattle.ad_causes.proofs.descriptors.put_entries.Given as goal

-- the lines so far
abbrev pub invariant-loop-text : goal.invariant-loop-text
invariant-loop-text l =
    l.into.items ≡ l.fn.into.items ++ entries_text l.more l.name (texts (take l.text-index l.all))
