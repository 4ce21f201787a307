use Rattle.std.proofs.Common.{◌≡◌, take}
use Rattle.std.specs.Prelude.{filter_map}
use Rattle.ad_control_placed.specs.Standing.{member_at}
use Rattle.ad_control_placed.proofs.members.members.Given as goal

-- those so far
abbrev pub invariant-loop-place : goal.invariant-loop-place
invariant-loop-place l = l.found.items
    ≡ filter_map (member_at l.ground.parties.tokens.all.items l.ground.at.items l.sid) (take l.place-index l.holders)
