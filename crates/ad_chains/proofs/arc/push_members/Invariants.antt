use Rattle.std.proofs.Common.{◌≡◌, ◌++◌, map, take}
use Rattle.ad_chains.specs.Joining.{member_edge}
use Rattle.ad_chains.proofs.arc.push_members.Given as goal

-- those so far
abbrev pub invariant-loop-member : goal.invariant-loop-member
invariant-loop-member l =
    l.edges.items ≡ l.initial.edges.items ++ map (member_edge l.set) (take l.member-index l.members)
