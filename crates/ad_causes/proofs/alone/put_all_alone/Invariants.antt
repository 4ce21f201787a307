use Rattle.std.proofs.Common.{◌≡◌, ◌++◌, take}
use Rattle.std.specs.List.{flat_map}
use Rattle.ad_causes.specs.Steps.{alone_text}
use Rattle.ad_causes.proofs.alone.put_all_alone.Given as goal

-- the lines so far
abbrev pub invariant-loop-number : goal.invariant-loop-number
invariant-loop-number l =
    l.into.items ≡ l.fn.into.items ++ flat_map (alone_text l.more l.dir l.other) (take l.number-index l.numbers)
