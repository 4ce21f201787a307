use Rattle.std.proofs.Common.{◌≡◌, take}
use Rattle.ad_causes.specs.Extra.{texts}
use Rattle.ad_causes.specs.Descriptors.{joined}
use Rattle.ad_causes.proofs.entries.joined.Given as goal

-- those so far
abbrev pub invariant-loop-one : goal.invariant-loop-one
invariant-loop-one l =
    l.text.items ≡ joined (texts (take l.one-index l.all))
