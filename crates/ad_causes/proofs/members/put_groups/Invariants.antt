use Rattle.std.proofs.Common.{◌≡◌, ◌++◌, take}
use Rattle.std.specs.List.{flat_map}
use Rattle.ad_causes.specs.Steps.{group_text}
use Rattle.ad_causes.proofs.members.put_groups.Given as goal

-- the lines so far
abbrev pub invariant-loop-number : goal.invariant-loop-number
invariant-loop-number l =
    l.into.items ≡ l.fn.into.items ++ flat_map (group_text l.more l.dir l.other) (take l.number-index l.numbers)
