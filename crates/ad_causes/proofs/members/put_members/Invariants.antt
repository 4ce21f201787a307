use Rattle.std.proofs.Common.{◌≡◌, ◌++◌, take}
use Rattle.std.specs.List.{flat_map}
use Rattle.ad_causes.specs.Steps.{member_text}
use Rattle.ad_causes.proofs.members.put_members.Given as goal

-- the lines so far
abbrev pub invariant-loop-number : goal.invariant-loop-number
invariant-loop-number l =
    l.into.items
    ≡ l.fn.into.items ++ flat_map (member_text l.more l.dir l.other l.others l.group) (take l.number-index l.members)
